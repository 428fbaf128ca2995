use Rattle.std.proofs.Common.{◌≤◌}
use Rattle.zone_graph.proofs.segments.is_first.Given as goal

abbrev pub invariant-loop-other : goal.invariant-loop-other
invariant-loop-other l = l.other ≤ l.place

abbrev pub decreases-loop-other : goal.decreases-loop-other
decreases-loop-other l = l.other
