use Rattle.std.proofs.Common.{refl}
use Rattle.std.proofs.lemmas.Result.{on_ok_weaker}
use Rattle.igp_theory.specs.Isis.{OffersLevelTwo}
use Rattle.isis_routes.specs.steps.Offered.{OwnAnnouncement}
use Rattle.isis_routes.proofs.OfferLists.{offers_same}
use Rattle.isis_routes.proofs.announcements.push_own_subnets.Goals as goal

pub returns : goal.returns
returns c =
    on_ok_weaker c.push_router_offers.result
    (λ adds. offers_same c.args.offers.now.items c.push_router_offers.new.offers.items c.args.router
    (OffersLevelTwo c.args.net.now c.args.dest c.args.router) (OwnAnnouncement c.args.net.now c.args.dest c.args.router) adds
    (λ k. (λ offers. record { runs = c.if-not-runs_level_two.ensures.runs.0 refl; offers = offers }, λ announces. announces.offers)))
    c.push_router_offers.ensures
