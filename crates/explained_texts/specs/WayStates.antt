-- The one state in which the way of a fault is told.
use Rattle.std.specs.Prelude.{◌≡◌, ℕ, List, All}
use Rattle.order_core.specs.declared.turn.Turn.{Turn}
use Rattle.igp_theory.specs.Loops.{Arises, Fault, loop, missing}
use Rattle.igp_theory.specs.Migrations.{Migration}
use Rattle.igp_theory.specs.Phases.{State}
use Rattle.igp_theory.specs.declared.phase.Phase.{Phase}
use Rattle.explained_texts.specs.WayTexts.{IsFirstLacking, StateSpan, turn_phase}

-- each router of the ring is in the phase that is told of it, and steps to the next one
pub record GoesRoundIn (move : Migration) (span : StateSpan) (state : State) (a : ℕ) (ring : List Turn) : Type 0 where
  pub phases : All (λ (turn : Turn). state turn.router ≡ turn_phase span turn) ring
  pub arises : Arises move state a ring

-- or the router is in the phase that is told of it, and lacks a step
pub record LacksStepIn (move : Migration) (span : StateSpan) (state : State) (a u : ℕ) : Type 0 where
  pub phase : Phase
  pub told : IsFirstLacking move span a u phase
  pub is_in : state u ≡ phase

abbrev pub ShowsFault : Migration → StateSpan → State → Fault → Type 0
ShowsFault move span state (loop a ring) = GoesRoundIn move span state a ring
ShowsFault move span state (missing a u) = LacksStepIn move span state a u

-- one of some states shows the fault as it is told
pub record IsShownInOne (move : Migration) (states : State → Type 0) (span : StateSpan) (fault : Fault) : Type 0 where
  pub state : State
  pub among : states state
  pub shows : ShowsFault move span state fault
