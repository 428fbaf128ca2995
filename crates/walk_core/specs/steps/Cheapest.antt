-- The cheapest of some things, of which some may have no cost.
use Rattle.std.specs.Prelude.{◌≡◌, ℕ, ◌≤◌, List, Option, Some, Contains, MatchOption}

-- one of them costs this
pub record HasCost {X : Type 0} (cost_of : X → Option ℕ) (things : List X) (cost : ℕ) : Type 0 where
  pub thing : X
  pub among : Contains things thing
  pub costs : cost_of thing ≡ Some cost

-- none of them has a cost
abbrev pub NoneHasCost : {X : Type 0} → (X → Option ℕ) → List X → Type 0
NoneHasCost cost_of things = (cost : ℕ) → HasCost cost_of things cost → ⊥

-- one of them costs this, and none costs less
pub record IsCheapest {X : Type 0} (cost_of : X → Option ℕ) (things : List X) (cost : ℕ) : Type 0 where
  pub attained : HasCost cost_of things cost
  pub least : (other : ℕ) → HasCost cost_of things other → cost ≤ other

-- what the cheapest costs, if one has a cost
abbrev pub IsCheapestCost : {X : Type 0} → (X → Option ℕ) → List X → Option ℕ → Type 0
IsCheapestCost cost_of things best = MatchOption best (NoneHasCost cost_of things) (IsCheapest cost_of things)
