-- Lists of steps that return to their first router.
use Rattle.std.specs.Prelude.{ℕ, List, ◌∷◌}
use Rattle.igp_theory.specs.States.{Follows}

-- no non-empty list of steps from router u returns to it
abbrev pub NeverReturnsTo : (ℕ → ℕ → Type 0) → ℕ → Type 0
NeverReturnsTo step u = (h : ℕ) (hops : List ℕ) → Follows step u (h ∷ hops) u → ⊥
