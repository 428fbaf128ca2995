use Rattle.zone_graph.specs.steps.Runs.{AreSegmentsTo}
use Rattle.zone_graph.proofs.segments.segments_of.Given as goal

abbrev pub invariant-loop-place : goal.invariant-loop-place
invariant-loop-place l = AreSegmentsTo l.attachments l.place l.all.items
