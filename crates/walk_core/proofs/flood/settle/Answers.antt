use Rattle.std.proofs.Common.{arith}
use Rattle.walk_core.proofs.flood.settle.Goals as goal

pub returns-clause-tight : goal.returns-clause-tight
returns-clause-tight c u below =
    let now = c.loop-u.invariant in
    now.settled.tight u (now.next.none (omega (arith, c.loop-u-test.false, c.len.ensures)) u (omega (arith, below, now.flood.marks)))
