-- Walks, their cost, least cost and first hops, over any arc relation.
use Rattle.std.specs.Prelude.{◌≡◌, ℕ, ◌+◌, ◌≤◌, List, [], ◌∷◌}

-- an arc relation says from where, to where and at what cost
abbrev pub Arcs : Type 1
Arcs = ℕ → ℕ → ℕ → Type 0

-- one leg of a walk: where it leads, and what it costs
pub record Leg : Type 0 where
  pub to : ℕ
  pub cost : ℕ

-- the legs lead from u to v, each over an arc
abbrev pub Walks : Arcs → ℕ → List Leg → ℕ → Type 0
Walks arc u [] v = u ≡ v
Walks arc u (leg ∷ legs) v = arc u leg.to leg.cost × Walks arc leg.to legs v

-- what a walk costs: the sum of its legs' costs
abbrev pub walk_cost : List Leg → ℕ
walk_cost [] = 0
walk_cost (leg ∷ legs) = leg.cost + walk_cost legs

-- a walk from u to v that no other undercuts
pub record LeastWalk (arc : Arcs) (u : ℕ) (legs : List Leg) (v : ℕ) : Type 0 where
  pub leads : Walks arc u legs v
  pub least : (others : List Leg) → Walks arc u others v → walk_cost legs ≤ walk_cost others

-- the least cost of a walk from u to v: some least walk costs it
pub record LeastCost (arc : Arcs) (u v cost : ℕ) : Type 0 where
  pub legs : List Leg
  pub walk : LeastWalk arc u legs v
  pub costs : walk_cost legs ≡ cost

-- some least walk from u to v begins with the leg to h
pub record FirstHop (arc : Arcs) (u v h : ℕ) : Type 0 where
  pub leg : Leg
  pub legs : List Leg
  pub walk : LeastWalk arc u (leg ∷ legs) v
  pub begins : leg.to ≡ h
