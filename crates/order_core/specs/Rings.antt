-- Rings of routers, told from their lowest-numbered router on.
use Rattle.std.specs.Prelude.{◌≡◌, ℕ, ◌≤◌, List, ◌∷◌, ◌++◌, All}

-- a ring is turned so that its lowest-numbered router is first
pub record IsTurned (ring turned : List ℕ) : Type 0 where
  pub front : List ℕ
  pub back : List ℕ
  pub found : ring ≡ front ++ back
  pub turned_is : turned ≡ back ++ front
  pub lowest : ℕ
  pub others : List ℕ
  pub first : turned ≡ lowest ∷ others
  pub least : All (λ u. lowest ≤ u) others
