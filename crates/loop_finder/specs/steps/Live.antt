-- Which routers of a step relation are live: marks that are taken from those that can't step on.
use Rattle.std.specs.Prelude.{ℕ, ◌+◌, ◌≤◌, Bool, List, length, Contains, Option, Some, None}
use Rattle.igp_theory.specs.States.{Follows}
use Rattle.order_core.specs.Marks.{IsMarked, marked_count}

-- the router steps to a marked one
pub record HasMarkedHop (step : ℕ → ℕ → Type 0) (marks : List Bool) (u : ℕ) : Type 0 where
  pub hop : ℕ
  pub steps : step u hop
  pub marked : IsMarked marks hop

-- from a router that isn't marked lead at most as many steps as there are such routers
abbrev pub AreBounded : (ℕ → ℕ → Type 0) → List Bool → Type 0
AreBounded step marks =
    (u : ℕ) (hops : List ℕ) (last : ℕ) → ¬ IsMarked marks u → Follows step u hops last → length hops + marked_count marks ≤ length marks

-- the lowest-numbered marked router among some
pub record IsLowestMarked (routers : List ℕ) (marks : List Bool) (h : ℕ) : Type 0 where
  pub among : Contains routers h
  pub marked : IsMarked marks h
  pub lowest : (q : ℕ) → Contains routers q → IsMarked marks q → h ≤ q

-- that router, none where none of them is marked
abbrev pub LowestMarked : List ℕ → List Bool → Option ℕ → Type 0
LowestMarked routers marks None = (q : ℕ) → Contains routers q → ¬ IsMarked marks q
LowestMarked routers marks (Some h) = IsLowestMarked routers marks h
