use Rattle.std.proofs.Common.{◌-◌, ◌<◌, ◌≤◌, length}
use Rattle.zone_graph.proofs.segments.run_end.Given as goal

abbrev pub invariant-loop-end : goal.invariant-loop-end
invariant-loop-end l = record {
  after : l.place < l.end;
  within : l.end ≤ length l.attachments;
}

abbrev pub decreases-loop-end : goal.decreases-loop-end
decreases-loop-end l = length l.attachments - l.end
