use Rattle.std.proofs.Common.{◌<◌, ℕ, get_or}
use Rattle.walk_core.specs.Distances.{distance_at}
use Rattle.walk_core.specs.steps.Cheapest.{HasCost}
use Rattle.walk_core.specs.steps.Flooding.{Lowers, cost_onto, segment_at}
use Rattle.walk_core.specs.steps.Floods.{IsFlood, marked_in}
use Rattle.walk_core.specs.steps.Relaxing.{Fall, IsAtMost}
use Rattle.walk_core.specs.Segments.{Sends}
use Rattle.walk_core.proofs.flood.lower.Given as goal

abbrev pub invariant-loop-port : goal.invariant-loop-port
invariant-loop-port l = record {
  flood : IsFlood l.graph l.flood;
  falls : Fall (Sends l.graph.segments) l.initial.flood.distances.items l.flood.distances.items;
  lowers : Lowers l.found (marked_in l.initial.flood) (marked_in l.flood);
  entry : HasCost (cost_onto l.flood.distances.items) (segment_at l.graph.segments l.place) l.found;
  lowered : (j : ℕ) → j < l.port-index →
      IsAtMost (distance_at l.flood.distances.items (get_or (segment_at l.graph.segments l.place) j (record { vertex = 0; cost = 0 })).vertex) l.found;
}
