-- Changes of a router, and what becomes of the faults of states.
use Rattle.std.specs.Prelude.{◌≡◌, ℕ, List, length}
use Rattle.igp_theory.specs.Phases.{State, state_in}
use Rattle.igp_theory.specs.declared.phase.Phase.{Phase}
use Rattle.order_core.specs.declared.turn.Turn.{Turn}
use Rattle.loop_finder.specs.steps.Parts.{DifferAt}
use Rattle.loop_finder.specs.Mixes.{sample_of, Mix}
use Rattle.loop_finder.specs.Soundness.{SoundAt, Sound}
use Rattle.loop_finder.specs.steps.Verdicts.{Faulty}
use Rattle.loop_finder.specs.declared.fault.Fault.{Fault}

-- a change of a router: the phases that come of it, the router, and its phase before
pub record PhaseChange : Type 0 where
  pub phases : List Phase
  pub router : ℕ
  pub was : Phase

-- a change of one of n routers leads on from a state
pub record LeadsFrom (n : ℕ) (change : PhaseChange) (before : State) : Type 0 where
  pub here : before change.router ≡ change.was
  pub others : DifferAt n change.router before (state_in change.phases)

-- the state that comes of a change is sound for a class where the one before is
abbrev pub StaysSoundAt : Mix → PhaseChange → ℕ → Type 0
StaysSoundAt m change atom =
    (before : State) → LeadsFrom (length m.net) change before → SoundAt m before (sample_of m.classes atom)
    → SoundAt m (state_in change.phases) (sample_of m.classes atom)

-- it is sound where that one is sound
abbrev pub StaysSound : Mix → PhaseChange → Type 0
StaysSound m change =
    (before : State) → LeadsFrom (length m.net) change before → Sound m before → Sound m (state_in change.phases)

-- it has this fault where that one is sound
abbrev pub TurnsFaulty : Mix → PhaseChange → Fault → List Turn → Type 0
TurnsFaulty m change fault turns =
    (before : State) → LeadsFrom (length m.net) change before → Sound m before → Faulty m (state_in change.phases) fault turns
