-- The least of what is found: an item, or a pair of routers with an item.
use Rattle.std.specs.Prelude.{◌≡◌, ℕ, ◌<◌, ◌≤◌, ◌⊎◌, Option, None, Some}
use Rattle.net_addr.specs.Addresses.{Block}
pub use Rattle.order_core.specs.Least.{IsLeast, IsLowest, IsBest}

-- prefixes are ordered by base, then by length
abbrev pub IsBlockAtMost : Block → Block → Type 0
IsBlockAtMost p q = (p.base < q.base) ⊎ ((p.base ≡ q.base) × (p.len ≤ q.len))

-- the better of two optional items, by a choice of the better of two
abbrev pub better_by : {A : Type 0} → (A → A → A) → Option A → Option A → Option A
better_by pick None other = other
better_by pick (Some one) None = Some one
better_by pick (Some one) (Some other) = Some (pick one other)

-- two routers, and what they have in common
pub record Pairing (A : Type 0) : Type 0 where
  pub one : ℕ
  pub two : ℕ
  pub item : A

-- one comes no later than another: by the first router, then the second, then the item
pub data ComesNoLater {A : Type 0} (AtMost : A → A → Type 0) (p q : Pairing A) : Type 0 where
  by_first : p.one < q.one → ComesNoLater AtMost p q
  by_second : p.one ≡ q.one → p.two < q.two → ComesNoLater AtMost p q
  by_item : p.one ≡ q.one → p.two ≡ q.two → AtMost p.item q.item → ComesNoLater AtMost p q

-- the least pair of routers that clash, the first at most the second, with the least item that they clash in
pub record IsLeastPair {A : Type 0} (AtMost : A → A → Type 0) (Clash : ℕ → ℕ → A → Type 0) (one two : ℕ) (item : A) : Type 0 where
  pub ordered : one ≤ two
  pub clash : Clash one two item
  pub least : (u v : ℕ) (other : A) → u ≤ v → Clash u v other →
      ComesNoLater AtMost (record { one = one; two = two; item = item }) (record { one = u; two = v; item = other })

-- no two routers clash
abbrev pub NoneClash : {A : Type 0} → (ℕ → ℕ → A → Type 0) → Type 0
NoneClash {A} Clash = (u v : ℕ) (item : A) → Clash u v item → ⊥
