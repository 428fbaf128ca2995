-- Blocks of addresses as intervals, and as parts of one another.
use Rattle.std.proofs.lemmas.Grind.{common_steps}
use Rattle.std.proofs.Common.{◌≡◌, ℕ, ◌+◌, ◌-◌, ◌*◌, ◌/◌, ◌%◌, ◌^◌, ◌<◌, ◌≤◌, arith, sym, subst, ap, ◌∙◌}
use Rattle.std.proofs.lemmas.Nat.{pow_pos, div-mul-add, mod-mul-add, shr-shr}
use Rattle.net_addr.specs.Addresses.{Block, block_at, first_bits, ContainsAddress, Covers, IsBlock}

-- how many addresses a block has
abbrev pub block_size : Block → ℕ
block_size p = 2 ^ (32 - p.len)

multiple_is_clear : (q n : ℕ) → 0 < n → (q * n) % n ≡ 0
multiple_is_clear q n h = let e : q * n ≡ q * n + 0 = omega arith in ap (λ m. m % n) e ∙ mod-mul-add q n 0 h

block_around : (a n len : ℕ) → len ≤ 32 → a < 2 ^ 32 → n ≡ 2 ^ (32 - len) → 0 < n → IsBlock (block_at (a / n * n) len)
block_around a n len short below e h = grind (arith, common_steps, multiple_is_clear)

-- the block of a length that begins with the first bits of an address
pub IsBlock-around : (a n len : ℕ) → len ≤ 32 → a < 2 ^ 32 → n ≡ 2 ^ (32 - len) → IsBlock (block_at (a / n * n) len)
IsBlock-around a n len short below e = block_around a n len short below e (subst (λ (m : ℕ). 0 < m) (sym e) (pow_pos (32 - len)))

same_quotient_bounds : (a b n : ℕ) → 0 < n → b % n ≡ 0 → a / n ≡ b / n → (b ≤ a) × (a < b + n)
same_quotient_bounds a b n h e same = grind (arith, common_steps)

bounds_same_quotient : (a b n : ℕ) → 0 < n → b % n ≡ 0 → b ≤ a → a < b + n → a / n ≡ b / n
bounds_same_quotient a b n h e low high = grind (arith, common_steps, div-mul-add)

-- a block's addresses are those from its base on, as many as its size
pub ContainsAddress-bounds : (p : Block) (a : ℕ) → IsBlock p → ContainsAddress p a → (p.base ≤ a) × (a < p.base + block_size p)
ContainsAddress-bounds p a block inside = same_quotient_bounds a p.base (block_size p) (pow_pos (32 - p.len)) block.clear inside

pub ContainsAddress-between : (p : Block) (a : ℕ) → IsBlock p → p.base ≤ a → a < p.base + block_size p → ContainsAddress p a
ContainsAddress-between p a block low high = bounds_same_quotient a p.base (block_size p) (pow_pos (32 - p.len)) block.clear low high

-- a block is its base and its length
pub same_parts : (b c l m : ℕ) → b ≡ c → l ≡ m → block_at b l ≡ block_at c m
same_parts b c l m base len = ap (λ (x : ℕ). block_at x l) base ∙ ap (λ (x : ℕ). block_at c x) len

-- blocks of one length that contain a common address are one
pub same_block : (p q : Block) (a : ℕ) → IsBlock p → IsBlock q → p.len ≡ q.len → ContainsAddress p a → ContainsAddress q a → p ≡ q
same_block p q a left right same_len in_p in_q = grind (arith, common_steps, pow_pos, same_parts)

first_bits_shorter : (short long a : ℕ) → short ≤ long → long ≤ 32 → first_bits short a ≡ first_bits long a / 2 ^ (long - short)
first_bits_shorter short long a below fits = grind (arith, common_steps, shr-shr)

-- a block contains every address of a block that it covers
pub ContainsAddress-covers : (p q : Block) (a : ℕ) → IsBlock q → Covers p q → ContainsAddress q a → ContainsAddress p a
ContainsAddress-covers p q a block covers inside =
    first_bits_shorter p.len q.len a covers.longer block.short
    ∙ ap (λ (m : ℕ). m / 2 ^ (q.len - p.len)) inside
    ∙ sym (first_bits_shorter p.len q.len q.base covers.longer block.short)
    ∙ covers.inside

-- of two blocks that contain a common address, the shorter covers the longer
pub Covers-common : (p q : Block) (a : ℕ) → IsBlock q → p.len ≤ q.len → ContainsAddress p a → ContainsAddress q a → Covers p q
Covers-common p q a block shorter in_p in_q = record {
  longer = shorter;
  inside =
      first_bits_shorter p.len q.len q.base shorter block.short
      ∙ ap (λ (m : ℕ). m / 2 ^ (q.len - p.len)) (sym in_q)
      ∙ sym (first_bits_shorter p.len q.len a shorter block.short)
      ∙ in_p;
}
