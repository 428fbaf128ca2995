use Rattle.std.proofs.Common.{◌++◌, ◌∷◌, [], ◌<◌, take, List, Some, ap, sym, subst, ◌∙◌, ℕ, length}
use Rattle.std.proofs.lemmas.List.{take_all}
use Rattle.net_model.specs.declared.interface.Interface.{Interface}
use Rattle.zone_graph.specs.declared.links.Link.{Link}
use Rattle.zone_graph.specs.steps.LinkLists.{AreLinksOf, IsLinkAt}
use Rattle.net_addr.proofs.SomeElement.{one_more}
use Rattle.zone_graph.proofs.LinkFacts.{links_more, links_no_more}
use Rattle.zone_graph.proofs.links.Links.among.Goals as goal
use Rattle.zone_graph.proofs.links.Links.among.Goals.{in-Some+in_ok-push, in_default}

pub loop-interface-preserved : goal.loop-interface-preserved
loop-interface-preserved c =
    let i : ℕ = c.loop-interface.interface-index in
    let all : List Interface = c.args.interfaces.now in
    let front : List Interface = take i all in
    let interface : Interface = c.interface-item.result in
    let within : i < length all = c.loop-interface-test.true in
    let links : List Link = c.loop-interface.all.items in
    let new : List Link = c.match-link_of.all.items in
    subst (λ (l : List Interface). AreLinksOf c.args.zone l new) (one_more all i interface within c.interface-item.is)
    (elim c.match-link_of.branch [
      | in-Some+in_ok-push w ↦
          let link : Link = w.in-Some.link in
          let is : IsLinkAt c.args.zone interface (Some link) = subst (λ o. IsLinkAt c.args.zone interface o) w.in-Some.is c.link_of.ensures in
          subst (λ (l : List Link). AreLinksOf c.args.zone (front ++ interface ∷ []) l) (sym (ap (λ v. v.items) w.all-is ∙ w.in_ok-push.ensures.items))
          (links_more c.args.zone front interface links link c.loop-interface.invariant is)
      | in_default w ↦
          subst (λ (l : List Link). AreLinksOf c.args.zone (front ++ interface ∷ []) l) (sym (ap (λ v. v.items) w.all-is))
          (links_no_more c.args.zone front interface links c.loop-interface.invariant
          (subst (λ o. IsLinkAt c.args.zone interface o) w.in_default.is c.link_of.ensures))
    ])

pub returns : goal.returns
returns c =
    subst (λ (l : List Interface). AreLinksOf c.args.zone l c.loop-interface.all.items)
    (take_all c.loop-interface.interface-index c.args.interfaces.now c.loop-interface-test.false) c.loop-interface.invariant
