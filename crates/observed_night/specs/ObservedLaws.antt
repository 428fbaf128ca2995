-- The laws of what is observed.
use Rattle.std.specs.Prelude.{◌≡◌, ◌≢◌, ℕ, ◌<◌, List, length, slice_index, IsSome, IsTrue}
use Rattle.net_model.specs.Configuration.{Configuration}
use Rattle.net_model.specs.Network.{Network}
use Rattle.net_model.specs.Refusals.{IsNetwork, NamesAscend}
use Rattle.net_model.specs.declared.bounds.TheConstants.{MOST_DISTANCE}
use Rattle.order_core.specs.Rankings.{IsRanking}
use Rattle.igp_theory.specs.Phases.{State, made_in}
use Rattle.igp_theory.specs.declared.phase.Phase.{Phase}
use Rattle.state_replay.specs.Journals.{IsPlace, progress}
use Rattle.state_replay.specs.declared.place.Place.TheVariants.{Reached}
use Rattle.observed_night.specs.Differences.{AreOneNight, DiffersIn}
use Rattle.observed_night.specs.ObservedTexts.{IsObserved, state_journal}
use Rattle.observed_night.specs.ShownPhases.{IsAstray, IsShownState, ShowPhase}
use Rattle.observed_night.specs.ToldStates.{IsToldState}
use Rattle.observed_night.specs.declared.part.Part.{Part}
use Rattle.observed_night.specs.declared.night.Observed.{Observed}

-- one thing is observed
abbrev pub OneObservedLaw : Type 0
OneObservedLaw =
    (before now : Network) (ranks : List ℕ) (one other : Observed) → NamesAscend before → NamesAscend now → length ranks ≡ length before →
    IsObserved before now ranks one → IsObserved before now ranks other → one ≡ other

-- the counts are those of the changes made on each router in a state
pub record AreMadeIn (n : ℕ) (state : State) (done : List ℕ) : Type 0 where
  pub each : length done ≡ n
  pub made : (u : ℕ) → u < n → slice_index done u ≡ made_in (state u)

-- a journal reaches a state: its lines, the header apart, tell changes that begin a run of the wave list, and with them each
-- router is in its phase
pub record JournalReaches (net : Network) (ranks journal : List ℕ) (state : State) : Type 0 where
  pub changes : ℕ
  pub done : List ℕ
  pub made : AreMadeIn (length net) state done
  pub place : IsPlace (progress net ranks done) journal (Reached changes)

-- the state that is told is one that a run leads to and that the configurations show, and its journal reaches it
pub record IsFoundState (before now : Network) (ranks : List ℕ) (state : State) : Type 0 where
  pub shown : IsShownState before now ranks state
  pub reached : JournalReaches before ranks (state_journal before ranks state) state

abbrev pub JournalLaw : Type 0
JournalLaw =
    (before now : Network) (ranks : List ℕ) (state : State) → IsNetwork before → IsRanking (length before) ranks →
    ((u : ℕ) → IsAstray before now ranks u → ⊥) → IsToldState before now ranks state → IsFoundState before now ranks state

-- where a router's changes can't be no run leads to a state that the configurations show
abbrev pub AstrayLaw : Type 0
AstrayLaw =
    (before now : Network) (ranks : List ℕ) (state : State) (u : ℕ) → IsAstray before now ranks u → IsShownState before now ranks state → ⊥

-- networks that are alike but for distances differ in nothing
abbrev pub AlikeLaw : Type 0
AlikeLaw =
    (before now : Network) (name : List ℕ) (part : Part) → NamesAscend before → AreOneNight before now → DiffersIn before now name part → ⊥

-- a router that runs both protocols, with OSPF below 255 before, shows one phase at most
abbrev pub OnePhaseLaw : Type 0
OnePhaseLaw =
    (c d : Configuration) (one other : Phase) → IsTrue d.isis → IsSome d.process → c.distances.ospf ≢ MOST_DISTANCE →
    ShowPhase c d one → ShowPhase c d other → one ≡ other
