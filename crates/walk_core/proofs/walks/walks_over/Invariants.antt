use Rattle.walk_core.specs.steps.FirstHops.{AreFirstHops}
use Rattle.walk_core.proofs.walks.walks_over.Given as goal

abbrev pub invariant-loop-v : goal.invariant-loop-v
invariant-loop-v g l = AreFirstHops (g.G.CostGraph.has_arc l.graph) l.root l.v l.hops
