use Rattle.std.proofs.Common.{arith}
use Rattle.migration_report.proofs.SummaryFacts.{some_waves}
use Rattle.migration_report.proofs.summary.last_wave.Goals as goal

pub overflow_sub-result : goal.overflow_sub-result
overflow_sub-result c =
    let some = some_waves c.args.waves.now c.ranks-routers.ensures.some in
    omega (arith, some, c.count.ensures)

pub returns : goal.returns
returns c = record { last = omega (arith, c.count.ensures); some = some_waves c.args.waves.now c.ranks-routers.ensures.some }
