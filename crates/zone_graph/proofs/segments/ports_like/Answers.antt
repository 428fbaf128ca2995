use Rattle.std.proofs.Common.{arith}
use Rattle.std.proofs.lemmas.Grind.{common_steps}
use Rattle.std.proofs.Common.{◌≡◌, ◌++◌, ◌∷◌, [], ◌+◌, ℕ, List, Vec, Global, take, refl, sym, ap, subst, ◌∙◌}
use Rattle.std.proofs.lemmas.List.{take_all}
use Rattle.walk_core.specs.declared.segment.Port.{Port}
use Rattle.zone_graph.specs.steps.Attachments.{ArePortsLike}
use Rattle.zone_graph.specs.declared.attachments.Attachment.{Attachment}
use Rattle.net_addr.proofs.SomeElement.{one_more}
use Rattle.zone_graph.proofs.RunFacts.{no_ports, port_yes, port_no}
use Rattle.zone_graph.proofs.segments.ports_like.Goals as goal
use Rattle.zone_graph.proofs.segments.ports_like.Goals.{then-are_of_one_segment+in_ok-push, else-are_of_one_segment}

pub loop-attachment-init : goal.loop-attachment-init
loop-attachment-init c = grind (arith, common_steps, no_ports)

pub loop-attachment-preserved : goal.loop-attachment-preserved
loop-attachment-preserved c =
    let all : List Attachment = c.args.attachments.now in
    let like : Attachment = c.args.like.now in
    let i : ℕ = c.loop-attachment.attachment-index in
    let a : Attachment = c.attachment-item.result in
    let ports : List Port = c.loop-attachment.ports.items in
    let items = λ (v : Vec Port Global). v.items in
    let more : take i all ++ a ∷ [] ≡ take (i + 1) all = one_more all i a c.loop-attachment-test.true c.attachment-item.is in
    subst (λ (l : List Attachment). ArePortsLike l like c.if-are_of_one_segment.ports.items) more
    (elim c.if-are_of_one_segment.branch [
      | then-are_of_one_segment+in_ok-push w ↦
          let port : Port = record { vertex = a.router; cost = a.link.cost } in
          let e : c.if-are_of_one_segment.ports.items ≡ ports ++ port ∷ [] = ap items w.ports-is ∙ w.in_ok-push.ensures.items in
          subst (λ (l : List Port). ArePortsLike (take i all ++ a ∷ []) like l) (sym e)
          (port_yes (take i all) a like ports port c.loop-attachment.invariant (c.are_of_one_segment.ensures.0 w.if-are_of_one_segment.true)
          (record { vertex = refl; cost = refl }))
      | else-are_of_one_segment w ↦
          let e : c.if-are_of_one_segment.ports.items ≡ ports = ap items w.ports-is in
          subst (λ (l : List Port). ArePortsLike (take i all ++ a ∷ []) like l) (sym e)
          (port_no (take i all) a like ports c.loop-attachment.invariant
          (λ same. let yes = c.are_of_one_segment.ensures.1 same in let no = w.if-are_of_one_segment.false in cc (yes, no)))
    ])

pub returns : goal.returns
returns c =
    subst (λ (l : List Attachment). ArePortsLike l c.args.like.now c.loop-attachment.ports.items)
    (take_all c.loop-attachment.attachment-index c.args.attachments.now c.loop-attachment-test.false) c.loop-attachment.invariant
