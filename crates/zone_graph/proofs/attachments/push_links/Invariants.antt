use Rattle.std.proofs.Common.{take}
use Rattle.zone_graph.specs.steps.Attachments.{AddsLinks}
use Rattle.zone_graph.proofs.attachments.push_links.Given as goal

abbrev pub invariant-loop-link : goal.invariant-loop-link
invariant-loop-link l = AddsLinks l.initial.attachments.items l.attachments.items (take l.link-index l.links) l.group l.router
