use Rattle.std.proofs.Common.{◌≡◌, length}
use Rattle.walk_core.specs.steps.Relaxing.{AreWalked, HaveRoom, total_weight}
use Rattle.walk_core.proofs.relax.distances_from.Given as goal

abbrev pub invariant-loop : goal.invariant-loop
invariant-loop g l = record {
  whole : length l.distances.items ≡ g.G.CostGraph.vertex_count l.graph;
  room : HaveRoom l.distances.items;
  walked : AreWalked (g.G.CostGraph.has_arc l.graph) l.root l.distances.items;
}

abbrev pub decreases-loop : goal.decreases-loop
decreases-loop g l = total_weight l.distances.items
