use Rattle.std.proofs.Common.{◌<◌}
use Rattle.loop_finder.specs.Returns.{NeverReturnsTo}
use Rattle.loop_finder.proofs.Reaching.{NeverLeadsTo}
use Rattle.loop_finder.proofs.returns.ends_alone.Given as goal

abbrev pub invariant-loop : goal.invariant-loop
invariant-loop g l = record {
  within : l.last < g.G.StepGraph.size l.graph;
  never : NeverLeadsTo (g.G.StepGraph.step l.graph) l.last l.router → NeverReturnsTo (g.G.StepGraph.step l.graph) l.router;
}
