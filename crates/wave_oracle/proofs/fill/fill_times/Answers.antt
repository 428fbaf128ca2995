use Rattle.std.proofs.Common.{arith}
use Rattle.wave_oracle.proofs.FilledTimes.{times_filled}
use Rattle.wave_oracle.proofs.fill.fill_times.Goals as goal

pub returns-clause-times : goal.returns-clause-times
returns-clause-times c =
    times_filled c.args.items c.args.start.now c.args.ranks.now c.loop-router.times.items
    (omega (arith, c.loop-router.invariant.many, c.loop-router.times.ok.0)) c.requires.each
    (λ u within. c.loop-router.invariant.filled u (omega (arith, within, c.loop-router-test.false)))
