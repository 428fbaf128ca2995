use Rattle.walk_core.specs.Reach.{AreWalksBelow}
use Rattle.walk_core.specs.Segments.{SendsAcross}
use Rattle.walk_core.proofs.over_segments.whole_walks.Given as goal

abbrev pub invariant-loop-root : goal.invariant-loop-root
invariant-loop-root l = AreWalksBelow (SendsAcross l.segments) l.count l.root l.all.items
