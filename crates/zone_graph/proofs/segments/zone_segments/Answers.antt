use Rattle.std.proofs.Common.{arith}
use Rattle.std.proofs.lemmas.Grind.{common_steps}
use Rattle.std.proofs.Common.{List, length, subst}
use Rattle.zone_graph.specs.steps.Attachments.{AreTheSegments}
use Rattle.zone_graph.specs.declared.attachments.Attachment.{Attachment}
use Rattle.zone_graph.proofs.AttachmentFacts.{are_zone_segments, attachments_same}
use Rattle.zone_graph.proofs.segments.zone_segments.Goals as goal

pub segments_of-requires : goal.segments_of-requires
segments_of-requires c = grind (arith, common_steps)

pub returns : goal.returns
returns c =
    let sorted : List Attachment = c.sort_by_base.new.attachments.items in
    are_zone_segments c.args.net.now c.args.zone sorted c.in_ok-segments.segments.items c.all_attachments.ensures.network
    (attachments_same c.args.net.now c.args.zone (length c.args.net.now) c.in_ok-attachments.attachments.items sorted c.in_ok-sort_by_base.ensures.kept
    c.in_ok-attachments.ensures.exact)
    (subst (λ (l : List Attachment). AreTheSegments l c.in_ok-segments.segments.items) c.as_slice.ensures.value c.in_ok-segments.ensures)
