-- What is known of the walks from a root, from the first vertex on that any of them may lead to.
use Rattle.std.specs.Prelude.{◌≡◌, ◌≤◌, ℕ, ◌∷◌, ◌++◌, List, [], Option, None, length, replicate}
use Rattle.walk_core.specs.Reach.{Reach}
use Rattle.walk_core.specs.declared.stretch.OnlyHop.{OnlyHop}
use Rattle.walk_core.specs.declared.stretch.OnlyHop.TheVariants.{Nothing, One, Several}

-- the first vertex, and from it on how far each is, and its first hops
pub record ReachFrom : Type 0 where
  pub first : ℕ
  pub distances : List (Option ℕ)
  pub hops : List (List ℕ)

-- no walk leads to the vertices in front of the first
abbrev pub reach_along : ReachFrom → Reach
reach_along s = record { distances = replicate s.first None ++ s.distances; hops = replicate s.first [] ++ s.hops }

-- the hops are none, or this one, or two and more
abbrev pub IsOnlyHop : List ℕ → OnlyHop → Type 0
IsOnlyHop hops Nothing = hops ≡ []
IsOnlyHop hops (One hop) = hops ≡ hop ∷ []
IsOnlyHop hops Several = 2 ≤ length hops
