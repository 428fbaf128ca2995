use Rattle.std.proofs.Common.{◌<◌, ℕ, Contains}
use Rattle.walk_core.specs.declared.hops.Departure.{Departure}
use Rattle.walk_core.specs.steps.Departures.{LeavesTo}
use Rattle.walk_core.proofs.hops.departures_from.Given as goal

abbrev pub invariant-loop-i : goal.invariant-loop-i
invariant-loop-i g l = record {
  each : (d : Departure) → Contains l.departures.items d → g.G.CostGraph.has_arc l.graph l.root d.to d.cost;
  every : (j : ℕ) → j < l.i → LeavesTo l.departures.items
      (g.G.CostGraph.arc_at l.graph l.root j).0 (g.G.CostGraph.arc_at l.graph l.root j).1;
}
