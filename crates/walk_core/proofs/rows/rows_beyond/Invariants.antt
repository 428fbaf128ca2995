use Rattle.std.proofs.Common.{◌≡◌, ◌<◌, ℕ, [], length, get_or}
use Rattle.walk_core.specs.steps.Rows.{AreLeastDistances}
use Rattle.walk_core.proofs.rows.rows_beyond.Given as goal

abbrev pub invariant-loop-i : goal.invariant-loop-i
invariant-loop-i g l = record {
  long : length l.rows.items ≡ g.G.CostGraph.vertex_count l.graph;
  known : (j : ℕ) → j < l.i → AreLeastDistances (g.G.CostGraph.has_arc l.graph)
      (g.G.CostGraph.arc_at l.graph l.root j).0 (get_or l.rows.items (g.G.CostGraph.arc_at l.graph l.root j).0 []);
}
