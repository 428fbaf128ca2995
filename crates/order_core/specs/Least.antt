-- The least of what is found, and the lowest number.
use Rattle.std.specs.Prelude.{ℕ, ◌≤◌, Option, MatchOption}

-- the least item of which P holds, in an order of items
pub record IsLeast {A : Type 0} (AtMost : A → A → Type 0) (P : A → Type 0) (item : A) : Type 0 where
  pub holds : P item
  pub least : (other : A) → P other → AtMost item other

-- the lowest number of which P holds
abbrev pub IsLowest : (ℕ → Type 0) → ℕ → Type 0
IsLowest P n = IsLeast (λ a b. a ≤ b) P n

-- the least item of which P holds, and none exactly where there is none
abbrev pub IsBest : {A : Type 0} → (A → A → Type 0) → (A → Type 0) → Option A → Type 0
IsBest {A} AtMost P best = MatchOption best ((item : A) → P item → ⊥) (IsLeast AtMost P)
