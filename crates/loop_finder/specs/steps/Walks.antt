-- Walks along marked routers, and the rings that they end in.
use Rattle.std.specs.Prelude.{◌≡◌, ◌≢◌, ℕ, suc, ◌≤◌, ◌<◌, Bool, List, ◌∷◌, length, slice_index, slice_index_or, Option, Some, None, All, AllPairs}
use Rattle.igp_theory.specs.States.{Follows}
use Rattle.order_core.specs.Marks.{IsMarked}

-- no non-empty list of steps returns to its first router
abbrev pub ReturnsNever : (ℕ → ℕ → Type 0) → Type 0
ReturnsNever step = (u h : ℕ) (hops : List ℕ) → Follows step u (h ∷ hops) u → ⊥

-- the lowest-numbered marked hop of u
pub record IsMarkedHop (step : ℕ → ℕ → Type 0) (marks : List Bool) (u h : ℕ) : Type 0 where
  pub steps : step u h
  pub marked : IsMarked marks h
  pub lowest : (v : ℕ) → step u v → IsMarked marks v → h ≤ v

-- that hop, none where no hop of u is marked
abbrev pub LowestMarkedHop : (ℕ → ℕ → Type 0) → List Bool → ℕ → Option ℕ → Type 0
LowestMarkedHop step marks u None = (h : ℕ) → step u h → ¬ IsMarked marks h
LowestMarkedHop step marks u (Some h) = IsMarkedHop step marks u h

-- u steps to h, and to no lower-numbered marked router
pub record IsLeastHop (step : ℕ → ℕ → Type 0) (marks : List Bool) (u h : ℕ) : Type 0 where
  pub steps : step u h
  pub lowest : (v : ℕ) → step u v → IsMarked marks v → h ≤ v

-- a walk from a router, over distinct marked ones, each time to a hop below which no hop is marked; the hop of the last one is
-- the router at this place
pub record IsWalk (step : ℕ → ℕ → Type 0) (marks : List Bool) (start : ℕ) (path : List ℕ) (place : ℕ) : Type 0 where
  pub within : place < length path
  pub begins : slice_index path 0 ≡ start
  pub distinct : AllPairs (λ u v. u ≢ v) path
  pub marked : All (IsMarked marks) path
  pub goes : (k : ℕ) → k < length path → IsLeastHop step marks (slice_index path k) (slice_index_or path (suc k) (slice_index path place))

-- what a walk from a router ends with: such a place, or that router has no mark
abbrev pub WalkEnd : (ℕ → ℕ → Type 0) → List Bool → ℕ → List ℕ → Option ℕ → Type 0
WalkEnd step marks start path None = ¬ IsMarked marks start
WalkEnd step marks start path (Some place) = IsWalk step marks start path place

-- a place of the router in the list, none where it isn't there
abbrev pub PlaceOf : List ℕ → ℕ → Option ℕ → Type 0
PlaceOf routers router None = (k : ℕ) → k < length routers → slice_index routers k ≢ router
PlaceOf routers router (Some place) = (place < length routers) × (slice_index routers place ≡ router)
