-- The states of an order, one after another.
use Rattle.std.specs.Prelude.{ℕ, ◌<◌, List}
use Rattle.igp_theory.specs.Phases.{State}
use Rattle.igp_theory.specs.States.{state_of}

-- the first k states of an order are such
abbrev pub AreFirstStates : (State → Type 0) → List ℕ → ℕ → Type 0
AreFirstStates Is order k = (j : ℕ) → j < k → Is (state_of order j)
