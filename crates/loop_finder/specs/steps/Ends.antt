-- The hops of all routers in Old and in New, for the addresses of one class.
use Rattle.std.specs.Prelude.{◌≡◌, ℕ, ◌<◌, ◌⊎◌, List, [], length, slice_index_or, Contains}

-- the hops of router u
abbrev pub hops_at : List (List ℕ) → ℕ → List ℕ
hops_at lists u = slice_index_or lists u []

-- the hops of all routers in Old and in New
pub record ReadHops : Type 0 where
  pub olds : List (List ℕ)
  pub news : List (List ℕ)

-- router u has a step in Old and one in New
abbrev pub HasBothSteps : ReadHops → ℕ → Type 0
HasBothSteps lists u = (0 < length (hops_at lists.olds u)) × (0 < length (hops_at lists.news u))

-- no hops of n routers
pub record AreNoHops (n : ℕ) (lists : List (List ℕ)) : Type 0 where
  pub many : length lists ≡ n
  pub none : (u h : ℕ) → ¬ Contains (hops_at lists u) h

-- a router steps to another in Old or in New
abbrev pub EndStep : ReadHops → ℕ → ℕ → Type 0
EndStep lists u h = Contains (hops_at lists.olds u) h ⊎ Contains (hops_at lists.news u) h
