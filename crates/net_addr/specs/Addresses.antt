-- IPv4 addresses and prefixes (RFC 4632, section 3.1).
use Rattle.std.specs.Prelude.{◌≡◌, ℕ, ◌-◌, ◌/◌, ◌%◌, ◌^◌, ◌<◌, ◌≤◌}

-- a block of addresses: the address that it begins with, and how many first bits its addresses share
pub record Block : Type 0 where
  pub base : ℕ
  pub len : ℕ

-- the block with this base and this length
abbrev pub block_at : ℕ → ℕ → Block
block_at base len = record { base = base; len = len }

-- the prefix of all addresses, 0.0.0.0/0
abbrev pub default_prefix : Block
default_prefix = block_at 0 0

-- the first `len` bits of a 32-bit number
abbrev pub first_bits : ℕ → ℕ → ℕ
first_bits len a = a / 2 ^ (32 - len)

-- what every prefix is: a length of at most 32, and an address with no bit set past that length
pub record IsBlock (p : Block) : Type 0 where
  pub short : p.len ≤ 32
  pub address : p.base < 2 ^ 32
  pub clear : p.base % 2 ^ (32 - p.len) ≡ 0

-- a prefix contains the addresses that agree with its base in the first `len` bits
abbrev pub ContainsAddress : Block → ℕ → Type 0
ContainsAddress p a = first_bits p.len a ≡ first_bits p.len p.base

-- a prefix covers each prefix that is at least as long and whose base it contains
pub record Covers (p q : Block) : Type 0 where
  pub longer : p.len ≤ q.len
  pub inside : ContainsAddress p q.base
