use Rattle.std.proofs.Common.{List, ap, subst, ◌∙◌}
use Rattle.net_model.specs.Configuration.{Configuration}
use Rattle.net_model.specs.declared.interface.Interface.{Interface}
use Rattle.net_model.proofs.Adjacency.{HasConfiguration-unique}
use Rattle.zone_graph.specs.steps.LinkLists.{AreLinksOf}
use Rattle.zone_graph.specs.declared.links.Link.{Link}
use Rattle.zone_graph.proofs.attachments.links_of.Goals as goal

pub returns : goal.returns
returns c d at =
    let config : Configuration = c.config-config.result.now in
    let links : List Link = c.in_ok-links.links in
    subst (λ (l : List Interface). AreLinksOf c.args.zone l links)
    (c.as_slice.ensures ∙ ap (λ (x : Configuration). x.interfaces) c.config.view_is
    ∙ ap (λ (x : Configuration). x.interfaces) (HasConfiguration-unique c.args.net.now c.args.router config d c.config-config.ensures.router at))
    c.in_ok-links.ensures
