use Rattle.std.proofs.Common.{◌∙◌, refl, ap}
use Rattle.std.proofs.lemmas.Bool.{false≢true}
use Rattle.net_model.specs.Configuration.{Configuration}
use Rattle.igp_theory.specs.Ospf.{backbone}
use Rattle.ospf_routes.proofs.AreaFacts.{inner_listens}
use Rattle.ospf_routes.proofs.areas.listens_to.Goals as goal

pub returns-then-is_border : goal.returns-then-is_border
returns-then-is_border c = backbone (c.if-is_border.ensures.0 refl)

pub returns : goal.returns
returns c =
    inner_listens c.args.net.now c.args.u c.config.result.now c.as_slice.result.now c.first_area.result c.config.ensures.router
    (c.as_slice.ensures ∙ ap (λ (d : Configuration). d.interfaces) c.behind-net.view_is) (λ is. false≢true (c.if-is_border.ensures.1 is))
    c.first_area.ensures
