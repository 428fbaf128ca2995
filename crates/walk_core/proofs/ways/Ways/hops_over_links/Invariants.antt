use Rattle.walk_core.specs.Segments.{SendsAcross}
use Rattle.walk_core.specs.steps.FirstHops.{AreFirstHops}
use Rattle.walk_core.proofs.ways.Ways.hops_over_links.Given as goal

abbrev pub invariant-loop-v : goal.invariant-loop-v
invariant-loop-v l = AreFirstHops (SendsAcross l.self.segments) l.root l.v l.hops
