-- A safe wave list of single changes of which is asked whether they may stand one wave earlier.
use Rattle.std.specs.Prelude.{◌≡◌, ℕ, ◌<◌, ◌≤◌, List, length}
use Rattle.order_core.specs.Rankings.{rank_of}
use Rattle.igp_theory.specs.Loops.{Fault}
use Rattle.igp_theory.specs.Migrations.{Migration}
use Rattle.igp_theory.specs.Phases.{all_old, state_in}
use Rattle.igp_theory.specs.Timetables.{change_times}
use Rattle.igp_theory.specs.WaveFaults.{IsTimesFault}
use Rattle.loop_finder.specs.Faults.{Finding}
use Rattle.loop_finder.specs.Mixes.{Listing}
use Rattle.rib_mix.specs.Mixture.{migration_of}
use Rattle.change_orders.specs.TwoFiles.{AreTwoWaves}
use Rattle.explained_waves.specs.Reasons.{one_earlier}
use Rattle.explained_texts.specs.AskedLists.{AskedList}
use Rattle.explained_changes.specs.ChangeReasons.{AreSoundChanges}
use Rattle.explained_changes.specs.ChangeReasonTexts.{IsRightBehind}

-- a migration of few routers is sound throughout a wave list of their changes
pub record IsSafeList (move : Migration) (ranks : List ℕ) : Type 0 where
  pub few : length move.net ≤ 1000
  pub waves : AreTwoWaves (length move.net) ranks
  pub sound : AreSoundChanges move ranks

-- one of its changes, which may be asked of: it stands behind the first wave, and not right behind its router's first change
pub record IsAskable (ranks : List ℕ) (i : ℕ) : Type 0 where
  pub within : i < length ranks
  pub later : 0 < rank_of ranks i
  pub apart : ¬ IsRightBehind ranks i

-- the list with change i one wave earlier has this fault, in one of its waves
pub record HasFaultEarlier (move : Migration) (ranks : List ℕ) (i : ℕ) (fault : Fault) : Type 0 where
  pub wave : ℕ
  pub is_fault : IsTimesFault move (change_times (one_earlier ranks i)) wave fault

-- the list is safe, and the finder searches it from the start of all Old, with room for a timetable
pub record AreChangesAsked {O N : Type 0} (old : Listing O) (new : Listing N) (list : AskedList O N) (finding : Finding O N)
    (room : ℕ) : Type 0 where
  pub safe : IsSafeList (migration_of old new list.mixture) list.ranks
  pub mixture_is : finding.mixture ≡ list.mixture
  pub start_is : state_in finding.start ≡ all_old
  pub ring_is : finding.ring ≡ list.ring
  pub room_is : room ≡ length list.mixture.net
