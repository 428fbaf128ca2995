use Rattle.std.proofs.Common.{arith}
use Rattle.std.proofs.lemmas.Grind.{common_steps}
use Rattle.zone_graph.proofs.RunFacts.{no_segments, segment_earlier, segments_of_all}
use Rattle.zone_graph.proofs.segments.segments_of.Goals as goal
use Rattle.zone_graph.proofs.segments.segments_of.Goals.{then-is_first+in_ok-push_segment, else-is_first}

pub loop-place-init : goal.loop-place-init
loop-place-init c = grind (arith, common_steps, no_segments)

pub loop-place-preserved : goal.loop-place-preserved
loop-place-preserved c = grind (arith, common_steps, segment_earlier)

pub returns : goal.returns
returns c = segments_of_all c.args.attachments.now c.loop-place.place c.loop-place.all.items c.loop-place-test.false c.loop-place.invariant
