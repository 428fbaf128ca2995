use Rattle.std.proofs.Common.{◌∙◌, ap}
use Rattle.std.proofs.lemmas.Result.{on_ok_weaker}
use Rattle.std.specs.List.{Any}
use Rattle.net_model.specs.Configuration.{Configuration}
use Rattle.walk_core.specs.declared.offers.Offer.{Offer}
use Rattle.route_tables.proofs.ListFacts.{adds_same}
use Rattle.ospf_routes.proofs.SummaryFacts.{router_default_is}
use Rattle.ospf_routes.specs.steps.Summarized.{IsDefault, RouterDefault}
use Rattle.ospf_routes.proofs.stub_areas.push_router_defaults.Goals as goal

pub returns : goal.returns
returns c =
    on_ok_weaker c.push_stub_defaults.result
    (λ adds. adds_same c.args.offers.now.items c.push_stub_defaults.new.offers.items
    (λ (o : Offer). Any (IsDefault c.args.area c.args.b o) c.as_slice.result.now) (RouterDefault c.args.domain.now.net c.args.area c.args.b) adds
    (router_default_is c.args.domain.now.net c.args.area c.args.b c.config.result.now c.as_slice.result.now
    c.requires.border.inside c.requires.border.border
    c.config.ensures.router (c.as_slice.ensures ∙ ap (λ (d : Configuration). d.stubs) c.behind-domain.view_is)))
    c.push_stub_defaults.ensures
