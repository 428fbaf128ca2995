-- The journal of a state that is told.
use Rattle.std.specs.Prelude.{◌≡◌, ℕ, List}
use Rattle.net_model.specs.Network.{Network}
use Rattle.igp_theory.specs.Phases.{State}
use Rattle.observed_night.specs.ObservedTexts.{state_journal}
use Rattle.observed_night.specs.ToldStates.{IsToldState}

-- a text is the journal of the state that is told
pub record IsToldJournal (before now : Network) (ranks text : List ℕ) : Type 0 where
  pub state : State
  pub told : IsToldState before now ranks state
  pub text_is : text ≡ state_journal before ranks state
