use Rattle.walk_core.proofs.SegmentSteps.{KnowsBelow}
use Rattle.walk_core.proofs.beyond.walks_beyond.Given as goal

abbrev pub invariant-loop-v : goal.invariant-loop-v
invariant-loop-v l = KnowsBelow l.rows l.ports l.v l.distances.items l.hops
