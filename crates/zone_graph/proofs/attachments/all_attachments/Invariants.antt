use Rattle.zone_graph.specs.steps.Attachments.{AreAttachments}
use Rattle.zone_graph.proofs.attachments.all_attachments.Given as goal

abbrev pub invariant-loop-router : goal.invariant-loop-router
invariant-loop-router l = AreAttachments l.net l.zone l.router l.all.items
