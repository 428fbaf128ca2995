use Rattle.std.proofs.Common.{take}
use Rattle.zone_graph.specs.steps.Attachments.{ArePortsLike}
use Rattle.zone_graph.proofs.segments.ports_like.Given as goal

abbrev pub invariant-loop-attachment : goal.invariant-loop-attachment
invariant-loop-attachment l = ArePortsLike (take l.attachment-index l.attachments) l.like l.ports.items
