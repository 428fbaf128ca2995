-- What the laws of reasons say, of any list of ranks that a migration is sound throughout.
use Rattle.std.specs.Prelude.{◌≡◌, ℕ, ◌<◌, List}
use Rattle.order_core.specs.Rankings.{rank_of}
use Rattle.igp_theory.specs.Loops.{Fault}
use Rattle.igp_theory.specs.Migrations.{Migration}
use Rattle.igp_theory.specs.Timetables.{router_times}
use Rattle.igp_theory.specs.WaveFaults.{IsTimesFault}
use Rattle.explained_waves.specs.Reasons.{AreSoundRanks, reranked, one_earlier, MayBeEarlier, IsReason}

-- where a router stands one wave earlier and there is a fault, it is the fault of that wave, and a reason
abbrev pub FaultsOneEarlierAreReasons : Migration → Type 0
FaultsOneEarlierAreReasons move =
    (ranks : List ℕ) (v w : ℕ) (fault : Fault) → AreSoundRanks move ranks →
    IsTimesFault move (router_times move.start (one_earlier ranks v)) w fault →
    (w ≡ rank_of ranks v) × IsReason move ranks v fault

-- where no loop is a reason the router may stand one wave earlier
abbrev pub WithoutReasonMayBeEarlier : Migration → Type 0
WithoutReasonMayBeEarlier move =
    (ranks : List ℕ) (v : ℕ) → AreSoundRanks move ranks → ((fault : Fault) → ¬ IsReason move ranks v fault) →
    MayBeEarlier move ranks v

-- where a router may not stand one wave earlier it may stand in no earlier wave
abbrev pub EarlierWavesAreNoSafer : Migration → Type 0
EarlierWavesAreNoSafer move =
    (ranks : List ℕ) (v rank : ℕ) → AreSoundRanks move ranks → ¬ MayBeEarlier move ranks v → rank < rank_of ranks v →
    ¬ AreSoundRanks move (reranked ranks v rank)

-- a reason shows that the router may not stand one wave earlier
abbrev pub ReasonsKeepLater : Migration → Type 0
ReasonsKeepLater move = (ranks : List ℕ) (v : ℕ) (fault : Fault) → IsReason move ranks v fault → ¬ MayBeEarlier move ranks v

-- nor in any earlier wave, whether the migration is sound throughout the list or not
abbrev pub ReasonsForbidEarlierWaves : Migration → Type 0
ReasonsForbidEarlierWaves move =
    (ranks : List ℕ) (v rank : ℕ) (fault : Fault) → IsReason move ranks v fault → rank < rank_of ranks v →
    ¬ AreSoundRanks move (reranked ranks v rank)
