use Rattle.std.proofs.Common.{◌≡◌, ◌++◌, ◌∷◌, [], ◌+◌, ℕ, List, take, refl, sym, subst}
use Rattle.std.proofs.lemmas.List.{take_all}
use Rattle.zone_graph.specs.steps.Attachments.{AddsLinks}
use Rattle.zone_graph.specs.declared.attachments.Attachment.{Attachment}
use Rattle.zone_graph.specs.declared.links.Link.{Link}
use Rattle.zone_graph.proofs.AttachmentFacts.{adds_no_links, adds_link}
use Rattle.net_addr.proofs.SomeElement.{one_more}
use Rattle.zone_graph.proofs.attachments.push_links.Goals as goal

pub loop-link-init : goal.loop-link-init
loop-link-init c = adds_no_links c.args.attachments.now.items c.args.links.now c.args.group c.args.router

pub loop-link-preserved : goal.loop-link-preserved
loop-link-preserved c =
    let links : List Link = c.args.links.now in
    let i : ℕ = c.loop-link.link-index in
    let link : Link = c.link-item.result in
    let a : Attachment = record { link = link; group = c.args.group; router = c.args.router } in
    let old : List Attachment = c.args.attachments.now.items in
    let more : take i links ++ link ∷ [] ≡ take (i + 1) links = one_more links i link c.loop-link-test.true c.link-item.is in
    subst (λ (l : List Link). AddsLinks old c.push.new.self.items l c.args.group c.args.router) more
    (subst (λ (l : List Attachment). AddsLinks old l (take i links ++ link ∷ []) c.args.group c.args.router) (sym c.in_ok-push.ensures.items)
    (adds_link old c.loop-link.attachments.items (take i links) a c.args.group c.args.router c.loop-link.invariant refl refl))

pub returns : goal.returns
returns c =
    subst (λ (l : List Link). AddsLinks c.args.attachments.now.items c.loop-link.attachments.items l c.args.group c.args.router)
    (take_all c.loop-link.link-index c.args.links.now c.loop-link-test.false) c.loop-link.invariant
