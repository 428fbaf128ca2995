-- What the laws of these texts say.
use Rattle.std.specs.Prelude.{◌≡◌, ℕ, ◌<◌, List, length}
use Rattle.net_addr.specs.Addresses.{Block}
use Rattle.net_model.specs.Network.{Network}
use Rattle.net_model.specs.Refusals.{IsNetwork}
use Rattle.route_core.specs.declared.entry.Entry.{Entry}
use Rattle.igp_theory.specs.LoopLaws.{BeginsOld}
use Rattle.igp_theory.specs.Loops.{Fault, IsFirstFault}
use Rattle.igp_theory.specs.Migrations.{Migration}
use Rattle.igp_theory.specs.Routes.{Tables}
use Rattle.igp_theory.specs.States.{state_of}
use Rattle.igp_theory.specs.Timetables.{IsStateOfWave, IsTimetable, Timetable}
use Rattle.igp_theory.specs.WaveFaults.{IsTimesFault}
use Rattle.explained_texts.specs.ReasonTexts.{IsReasonsText}
use Rattle.explained_texts.specs.WayStates.{IsShownInOne}
use Rattle.explained_texts.specs.WayTexts.{IsWayText, IsFaultInSpan, StateSpan, order_span, times_span}

-- of a wave list there is one text of reasons
abbrev pub HasOneReasonsText : Migration → Type 0
HasOneReasonsText move =
    (ranks text other : List ℕ) → IsReasonsText move ranks text → IsReasonsText move ranks other → text ≡ other

-- a router of the network has one entry for a prefix in a table
abbrev pub HasOneEntry : Network → Tables → Type 0
HasOneEntry net tables = (u : ℕ) (p : Block) (e f : Entry) → u < length net → tables u p e → tables u p f → e ≡ f

-- over a network and tables with one entry for a prefix there is one text of the way of a fault
abbrev pub HasOneWayText : Migration → Type 0
HasOneWayText move =
    (span : StateSpan) (fault : Fault) (text other : List ℕ) → IsNetwork move.net → HasOneEntry move.net move.old →
    HasOneEntry move.net move.new → IsWayText move span fault text → IsWayText move span fault other → text ≡ other

-- the way of the first fault of an order can be told, and that of the fault of a timetable where every router begins in Old
abbrev pub FirstFaultsStandInTheirState : Migration → Type 0
FirstFaultsStandInTheirState move =
    (order : List ℕ) (k : ℕ) (fault : Fault) → IsFirstFault move order k fault → IsFaultInSpan move (order_span order k) fault

abbrev pub WaveFaultsStandInTheirWave : Migration → Type 0
WaveFaultsStandInTheirWave move =
    (time : Timetable) (w : ℕ) (fault : Fault) → BeginsOld move → IsTimetable (length move.net) move.start time →
    IsTimesFault move time w fault → IsFaultInSpan move (times_span time w) fault

-- what is told of a fault is so in one state: in that of the order, or in one of the wave
abbrev pub WaysOfOrdersAreInOneState : Migration → Type 0
WaysOfOrdersAreInOneState move =
    (order : List ℕ) (k : ℕ) (fault : Fault) (text : List ℕ) → IsFirstFault move order k fault →
    IsWayText move (order_span order k) fault text →
    IsShownInOne move (λ state. state ≡ state_of order k) (order_span order k) fault

abbrev pub WaysOfWavesAreInOneState : Migration → Type 0
WaysOfWavesAreInOneState move =
    (time : Timetable) (w : ℕ) (fault : Fault) (text : List ℕ) → IsTimetable (length move.net) move.start time →
    IsTimesFault move time w fault → IsWayText move (times_span time w) fault text →
    IsShownInOne move (IsStateOfWave (length move.net) time w) (times_span time w) fault
