-- The waves of a ranking and their lowest routers.
use Rattle.std.proofs.Common.{◌<◌, ℕ, List, [], ◌∷◌, length, arith}
use Rattle.std.proofs.lemmas.List.Elements.{Contains-get_or}
use Rattle.order_core.specs.Rankings.{IsRanking, wave_count, wave_of}
use Rattle.order_core.proofs.WaveLists.{wave_routers, wave_some}
use Rattle.migration_report.specs.SummaryTexts.{lowest_in}

-- where there is a router there is a wave
pub some_waves : (ranks : List ℕ) → 0 < length ranks → 0 < wave_count ranks
some_waves [] some = absurd (omega (arith, some))
some_waves (rank ∷ ranks) some = omega arith

-- the lowest router of a wave is one of those that are ranked
pub lowest_ranked : (ranks : List ℕ) (w : ℕ) → IsRanking (length ranks) ranks → w < wave_count ranks → lowest_in ranks w < length ranks
lowest_ranked ranks w ranking below =
    let some = wave_some (length ranks) ranks w ranking below in
    ((wave_routers ranks w (lowest_in ranks w)).0 (Contains-get_or (wave_of ranks w) 0 0 some)).0
