-- Where blocks of addresses begin and end, and what it means that none does so between two addresses.
use Rattle.std.specs.Prelude.{◌≡◌, ℕ, ◌+◌, ◌-◌, ◌^◌, ◌<◌, ◌≤◌, ◌⊎◌, ◌↔◌, List}
use Rattle.std.specs.List.{Contains}
use Rattle.net_addr.specs.Addresses.{Block, ContainsAddress, IsBlock}

-- the last address of a block: all bits past its length are set
abbrev pub last_address : Block → ℕ
last_address p = p.base + (2 ^ (32 - p.len) - 1)

-- a boundary of a block is its base, or the number after its last address
abbrev pub IsBoundary : Block → ℕ → Type 0
IsBoundary p c = (c ≡ p.base) ⊎ (c ≡ last_address p + 1)

-- no boundary of the block lies above a and at most at b
abbrev pub NoBoundaryBetween : Block → ℕ → ℕ → Type 0
NoBoundaryBetween p a b = (c : ℕ) → IsBoundary p c → a < c → c ≤ b → ⊥

-- the same blocks of the list contain a and b
abbrev pub SameBlocksContain : List Block → ℕ → ℕ → Type 0
SameBlocksContain blocks a b = (p : Block) → Contains blocks p → ContainsAddress p a ↔ ContainsAddress p b

-- where no block of a list has a boundary above a and at most at b, the same of these blocks contain a and b
abbrev pub BoundaryLaw : Type 0
BoundaryLaw =
    (blocks : List Block) (a b : ℕ) →
    ((p : Block) → Contains blocks p → IsBlock p) →
    a ≤ b →
    ((p : Block) → Contains blocks p → NoBoundaryBetween p a b) →
    SameBlocksContain blocks a b
