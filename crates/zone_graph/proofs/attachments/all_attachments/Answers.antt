use Rattle.std.proofs.lemmas.Grind.{common_steps}
use Rattle.std.proofs.Common.{List, subst, arith}
use Rattle.zone_graph.specs.steps.Attachments.{AddsLinks}
use Rattle.zone_graph.specs.declared.attachments.Attachment.{Attachment}
use Rattle.zone_graph.specs.declared.links.Link.{Link}
use Rattle.zone_graph.proofs.AttachmentFacts.{attachments_more, no_attachments}
use Rattle.zone_graph.proofs.attachments.all_attachments.Goals as goal

pub loop-router-init : goal.loop-router-init
loop-router-init c = grind (arith, common_steps, no_attachments)

pub loop-router-preserved : goal.loop-router-preserved
loop-router-preserved c =
    let links : List Link = c.in_ok-links.links in
    let old : List Attachment = c.loop-router.all.items in
    let adds : AddsLinks old c.push_links.new.attachments.items links c.group_of.result c.loop-router.router =
    subst (λ (l : List Link). AddsLinks old c.push_links.new.attachments.items l c.group_of.result c.loop-router.router) c.as_slice.ensures
    c.in_ok-push_links.ensures
    in
    attachments_more c.args.net.now c.args.zone c.loop-router.router c.group_of.result old c.push_links.new.attachments.items links
    c.loop-router.invariant c.in_ok-links.ensures c.group_of.ensures adds

pub returns-clause-exact : goal.returns-clause-exact
returns-clause-exact c = grind (arith, common_steps)
