use Rattle.std.proofs.Common.{arith}
use Rattle.walk_core.proofs.KeptLaws.{roots_kept}
use Rattle.walk_core.proofs.kept.kept_roots.Goals as goal

pub returns : goal.returns
returns c = λ after loses.
    roots_kept c.args.known.segments.now after c.args.lost.now c.args.count c.loop-walks.walks-index c.loop-walks.roots.items c.args.known.walks.now
    c.requires.known loses c.loop-walks.invariant.long (omega (arith, c.loop-walks.auto.walks-index-end)) c.loop-walks.invariant.each
