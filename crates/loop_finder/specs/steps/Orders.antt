-- The phases of all routers in the states of an order, one after another.
use Rattle.std.specs.Prelude.{◌≡◌, ◌≢◌, ℕ, List}
use Rattle.igp_theory.specs.States.{state_of}
use Rattle.igp_theory.specs.declared.phase.Phase.{Phase}
use Rattle.igp_theory.specs.declared.phase.Phase.TheVariants.{Old, Middle, New}
use Rattle.igp_theory.specs.Phases.{state_in}

-- the phase after the next change
abbrev pub next_phase : Phase → Phase
next_phase Old = Middle
next_phase Middle = New
next_phase New = New

-- the phases are those of state k of an order
abbrev pub IsOrderState : List Phase → List ℕ → ℕ → Type 0
IsOrderState phases order k = (u : ℕ) → state_in phases u ≡ state_of order k u

-- a router made its next change, and the others none
pub record IsAdvanced (old new : List Phase) (router : ℕ) : Type 0 where
  pub here : state_in new router ≡ next_phase (state_in old router)
  pub others : (u : ℕ) → u ≢ router → state_in new u ≡ state_in old u
