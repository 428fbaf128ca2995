-- What the laws of reasons say of single changes, of any list of ranks that a migration is sound throughout; and of their texts.
use Rattle.std.specs.Prelude.{◌≡◌, ℕ, ◌<◌, List, All}
use Rattle.order_core.specs.Rankings.{rank_of}
use Rattle.order_core.specs.declared.turn.Turn.{Turn}
use Rattle.igp_theory.specs.LoopLaws.{BeginsOld}
use Rattle.igp_theory.specs.Loops.{Fault, loop}
use Rattle.igp_theory.specs.Migrations.{Migration}
use Rattle.igp_theory.specs.TimetableLaws.{IsLoopOfWave}
use Rattle.igp_theory.specs.Timetables.{change_times}
use Rattle.igp_theory.specs.WaveFaults.{IsTimesFault}
use Rattle.plan_theory.specs.Ranked.{changes_ranked}
use Rattle.explained_waves.specs.Reasons.{one_earlier, reranked}
use Rattle.explained_changes.specs.ChangeReasons.{AreSoundChanges, ChangeMayBeEarlier, IsBehindFirst, IsChangeReason}
use Rattle.explained_changes.specs.ChangeReasonTexts.{IsChangeReasonsText}

-- where a change stands one wave earlier and there is a fault, it is a loop of the network
abbrev pub FaultsOneEarlierAreOfLoops : Migration → Type 0
FaultsOneEarlierAreOfLoops move =
    (ranks : List ℕ) (i w : ℕ) (fault : Fault) → BeginsOld move → AreSoundChanges move ranks → IsBehindFirst ranks i →
    IsTimesFault move (change_times (one_earlier ranks i)) w fault → IsLoopOfWave move (change_times (one_earlier ranks i)) w fault

-- its wave is the one before the change's own; and told by the changes at which its routers switch it is a reason
abbrev pub FaultsOneEarlierAreChangeReasons : Migration → Type 0
FaultsOneEarlierAreChangeReasons move =
    (ranks : List ℕ) (i w a : ℕ) (turns : List Turn) → BeginsOld move → AreSoundChanges move ranks → IsBehindFirst ranks i →
    All ((changes_ranked move).names a) turns →
    IsTimesFault move (change_times (one_earlier ranks i)) w (loop a ((changes_ranked move).ring turns)) →
    (w ≡ rank_of ranks i) × IsChangeReason move ranks i a turns

-- a reason shows that the change may not stand one wave earlier
abbrev pub ChangeReasonsKeepLater : Migration → Type 0
ChangeReasonsKeepLater move =
    (ranks : List ℕ) (i a : ℕ) (turns : List Turn) → BeginsOld move → IsChangeReason move ranks i a turns →
    ¬ ChangeMayBeEarlier move ranks i

-- nor in any earlier wave, where the list with it one wave earlier is one in which no second change comes before its first
abbrev pub ChangeReasonsForbidEarlierWaves : Migration → Type 0
ChangeReasonsForbidEarlierWaves move =
    (ranks : List ℕ) (i a rank : ℕ) (turns : List Turn) → BeginsOld move → AreSoundChanges move ranks → IsBehindFirst ranks i →
    IsChangeReason move ranks i a turns → rank < rank_of ranks i → ¬ AreSoundChanges move (reranked ranks i rank)

-- of a wave list of single changes there is one text of reasons, where every router begins in Old
abbrev pub HasOneChangeReasonsText : Migration → Type 0
HasOneChangeReasonsText move =
    (ranks text other : List ℕ) → BeginsOld move → IsChangeReasonsText move ranks text → IsChangeReasonsText move ranks other → text ≡ other
