use Rattle.std.proofs.Common.{◌<◌, get_or, length, subst, sym}
use Rattle.order_core.proofs.WaveLists.{wave_some}
use Rattle.migration_report.proofs.SummaryFacts.{lowest_ranked}
use Rattle.migration_report.proofs.summary.lowest_in.Goals as goal

pub bounds-wave-0 : goal.bounds-wave-0
bounds-wave-0 c =
    let ranks = c.args.waves.now in
    subst (λ routers. 0 < length routers) (sym c.wave.ensures) (wave_some (length ranks) ranks c.args.wave c.ranks-routers.ensures.ranking c.requires)

pub returns-clause-below : goal.returns-clause-below
returns-clause-below c =
    let ranks = c.args.waves.now in
    subst (λ routers. get_or routers 0 0 < length ranks) (sym c.wave.ensures) (lowest_ranked ranks c.args.wave c.ranks-routers.ensures.ranking c.requires)
