use Rattle.walk_core.specs.declared.offers.Offer.{Offer}
use Rattle.route_tables.proofs.ListFacts.{adds_at, exactly_added, adds_end}
use Rattle.ospf_routes.specs.steps.Offered.{OutsideOf}
use Rattle.ospf_routes.specs.declared.area_route.AreaRoute.{AreaRoute}
use Rattle.ospf_routes.proofs.area_route.put_outside.Goals as goal

pub loop-route-preserved : goal.loop-route-preserved
loop-route-preserved c =
    adds_at (λ (o : Offer) (r : AreaRoute). OutsideOf c.args.area r o)
    c.clear.new.self.items c.loop-route.offers.items c.push_option.new.all.items c.args.routes.now c.loop-route.route-index _ c.outside_offer.result
    c.loop-route-test.true c.loop-route.invariant c.in_ok-push_option.ensures.ok c.outside_offer.ensures

pub returns : goal.returns
returns c =
    exactly_added c.clear.new.self.items c.loop-route.offers.items _ c.clear.ensures.items
    (adds_end (λ (o : Offer) (r : AreaRoute). OutsideOf c.args.area r o)
    c.clear.new.self.items c.loop-route.offers.items c.args.routes.now c.loop-route.route-index c.loop-route-test.false c.loop-route.invariant)
