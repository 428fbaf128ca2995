use Rattle.std.proofs.Common.{ap, ◌∙◌}
use Rattle.std.specs.List.{Any}
use Rattle.std.proofs.lemmas.Result.{on_ok_weaker}
use Rattle.net_model.specs.Configuration.{Configuration}
use Rattle.net_model.specs.declared.interface.Interface.{Interface}
use Rattle.walk_core.specs.declared.offers.Offer.{Offer}
use Rattle.route_tables.proofs.ListFacts.{adds_same}
use Rattle.isis_routes.specs.steps.Offered.{AsksIn, IsOffer, OffersIn}
use Rattle.isis_routes.proofs.OfferLists.{router_offers}
use Rattle.isis_routes.proofs.offers.push_router_offers.Goals as goal

pub returns : goal.returns
returns c =
    let given = c.as_slice-interfaces.result.now in
    let w = c.args.router in
    on_ok_weaker c.push_offers.result
    (λ adds. adds_same c.args.offers.now.items c.push_offers.new.offers.items
    (λ (o : Offer). Any (λ (i : Interface). IsOffer w (AsksIn c.args.level c.args.dest i) o) given)
    (IsOffer w (OffersIn c.args.net.now c.args.level c.args.dest w)) adds
    (router_offers c.args.net.now c.args.level c.args.dest w c.config.result.now given c.config.ensures.router
    (c.as_slice-interfaces.ensures ∙ ap (λ (d : Configuration). d.interfaces) c.behind-net.view_is)))
    c.push_offers.ensures
