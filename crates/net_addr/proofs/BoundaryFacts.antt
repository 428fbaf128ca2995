-- Why an interval of addresses without a boundary of a block lies inside the block or outside it.
use Rattle.std.proofs.lemmas.Grind.{common_steps}
use Rattle.std.proofs.Common.{◌≡◌, ℕ, ◌+◌, ◌-◌, ◌*◌, ◌%◌, ◌^◌, ◌<◌, ◌≤◌, ◌↔◌, arith, refl, sym, ap, subst, ◌∙◌, inl, inr, ⊎_elim}
use Rattle.std.proofs.lemmas.Nat.{pow_pos, pow-add, div_below, mul-le}
use Rattle.std.proofs.lemmas.Bool.{cases_lt}
use Rattle.net_addr.specs.Addresses.{Block, ContainsAddress, IsBlock}
use Rattle.net_addr.specs.Boundaries.{last_address, NoBoundaryBetween, BoundaryLaw}
use Rattle.net_addr.proofs.Blocks.{block_size, ContainsAddress-bounds, ContainsAddress-between}

fits_below : (b n m : ℕ) → 0 < n → b % n ≡ 0 → b < m * n → b + n ≤ m * n
fits_below b n m pos clear below = grind (arith, common_steps, div_below, mul-le)

pub whole_space : (len : ℕ) → len ≤ 32 → 2 ^ len * 2 ^ (32 - len) ≡ 2 ^ 32
whole_space len short =
    let all : len + (32 - len) ≡ 32 = omega arith in sym (pow-add 2 len (32 - len)) ∙ ap (λ (k : ℕ). 2 ^ k) all

-- the last address of a block is an address
pub last_address-below : (p : Block) → IsBlock p → last_address p < 2 ^ 32
last_address-below p block =
    let space : 2 ^ p.len * block_size p ≡ 2 ^ 32 = whole_space p.len block.short in
    let below : p.base < 2 ^ p.len * block_size p = subst (λ (m : ℕ). p.base < m) (sym space) block.address in
    let pos : 0 < block_size p = pow_pos (32 - p.len) in
    let room : p.base + block_size p ≤ 2 ^ p.len * block_size p = fits_below p.base (block_size p) (2 ^ p.len) pos block.clear below in
    omega arith

-- the number after a block's last address is its base and its size
pub last_address-after : (p : Block) → last_address p + 1 ≡ p.base + block_size p
last_address-after p = omega (arith, pow_pos (32 - p.len))

stays_above : (p : Block) (a b : ℕ) → IsBlock p → a ≤ b → NoBoundaryBetween p a b → ContainsAddress p a → ContainsAddress p b
stays_above p a b block order none inside =
    let bounds : (p.base ≤ a) × (a < p.base + block_size p) = ContainsAddress-bounds p a block inside in
    let after : last_address p + 1 ≡ p.base + block_size p = last_address-after p in
    ⊎_elim
    (λ (below : b < p.base + block_size p). ContainsAddress-between p b block (omega arith) below)
    (λ (past : p.base + block_size p ≤ b). absurd (none (last_address p + 1) (inr refl) (omega arith) (omega arith)))
    (cases_lt b (p.base + block_size p))

stays_below : (p : Block) (a b : ℕ) → IsBlock p → a ≤ b → NoBoundaryBetween p a b → ContainsAddress p b → ContainsAddress p a
stays_below p a b block order none inside =
    let bounds : (p.base ≤ b) × (b < p.base + block_size p) = ContainsAddress-bounds p b block inside in
    ⊎_elim
    (λ (before : a < p.base). absurd (none p.base (inl refl) before bounds.0))
    (λ (from : p.base ≤ a). ContainsAddress-between p a block from (omega arith))
    (cases_lt a p.base)

-- a block with no boundary above a and at most at b contains both or neither
pub ContainsAddress-alike : (p : Block) (a b : ℕ) → IsBlock p → a ≤ b → NoBoundaryBetween p a b → ContainsAddress p a ↔ ContainsAddress p b
ContainsAddress-alike p a b block order none = (stays_above p a b block order none, stays_below p a b block order none)

pub boundaries_tell : BoundaryLaw
boundaries_tell blocks a b each order none p member = ContainsAddress-alike p a b (each p member) order (none p member)
