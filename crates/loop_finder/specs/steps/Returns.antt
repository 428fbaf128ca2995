-- What is kept of the routers that steps return to, and their layers.
use Rattle.std.specs.Prelude.{◌≡◌, ℕ, ◌<◌, ◌≤◌, ◌+◌, ◌^◌, ◌⊎◌, Bool, List, ◌∷◌, ◌++◌, length, slice_index_or, All, Contains}
use Rattle.igp_theory.specs.States.{Follows}
use Rattle.order_core.specs.Marks.{IsMarked, marked_count}

-- each router to which a non-empty list of steps returns is marked
abbrev pub MarksReturns : (ℕ → ℕ → Type 0) → List Bool → Type 0
MarksReturns step marks = (u h : ℕ) (hops : List ℕ) → Follows step u (h ∷ hops) u → IsMarked marks u

-- each router to which a non-empty list of steps returns is marked, or it stays so and the list passes none of some routers
abbrev pub MarksAgain : (ℕ → ℕ → Type 0) → List ℕ → List Bool → List Bool → Type 0
MarksAgain step changed before marks =
    (u h : ℕ) (hops : List ℕ) → Follows step u (h ∷ hops) u
    → IsMarked marks u ⊎ ((IsMarked before u → IsMarked marks u) × Follows (λ x y. step x y × ¬ Contains changed x) u (h ∷ hops) u)

-- the layer of router u
abbrev pub layer_in : List ℕ → ℕ → ℕ
layer_in layers u = slice_index_or layers u 0

-- router u has a layer
abbrev pub HasLayer : List ℕ → ℕ → Type 0
HasLayer layers u = layer_in layers u + 1 < 2 ^ 32

-- a layer is above those of some routers
abbrev pub IsLayerAbove : List ℕ → List ℕ → ℕ → Type 0
IsLayerAbove layers routers layer = (h : ℕ) → Contains routers h → layer_in layers h < layer

-- from router u, where it has a layer, no step leads higher, and each leads lower where it isn't marked
pub record IsLevelled (step : ℕ → ℕ → Type 0) (layers : List ℕ) (marks : List Bool) (u : ℕ) : Type 0 where
  pub no_higher : HasLayer layers u → (h : ℕ) → step u h → layer_in layers h ≤ layer_in layers u
  pub lower : HasLayer layers u → (¬ IsMarked marks u) → (h : ℕ) → step u h → layer_in layers h < layer_in layers u

-- what is kept of the routers that steps from the goal have reached: each is marked and listed once, and the
-- goal isn't reached again
pub record AreReached (goal : ℕ) (marks : List Bool) (reached : List ℕ) : Type 0 where
  pub listed : (u : ℕ) → IsMarked marks u → Contains reached u
  pub within : All (λ u. u < length marks) reached
  pub count : length reached ≡ marked_count marks
  pub apart : ¬ IsMarked marks goal

-- further routers are reached, and none is forgotten
pub record ReachesMore (marks : List Bool) (reached : List ℕ) (marks' : List Bool) (reached' : List ℕ) : Type 0 where
  pub marked : (u : ℕ) → IsMarked marks u → IsMarked marks' u
  pub added : List ℕ
  pub listed : reached' ≡ reached ++ added
