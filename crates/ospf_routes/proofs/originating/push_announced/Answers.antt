use Rattle.walk_core.specs.declared.offers.Offer.{Offer}
use Rattle.route_tables.proofs.ListFacts.{adds_at, adds_end}
use Rattle.ospf_routes.specs.steps.Summarized.{IsOutgoing}
use Rattle.ospf_routes.specs.declared.area_route.AreaRoute.{AreaRoute}
use Rattle.ospf_routes.proofs.originating.push_announced.Goals as goal

pub loop-route-preserved : goal.loop-route-preserved
loop-route-preserved c =
    adds_at (λ (o : Offer) (x : AreaRoute). IsOutgoing c.args.domain.now.net c.args.area.now.number o x)
    c.args.offers.now.items c.loop-route.offers.items c.push_option.new.all.items c.args.routes.now c.loop-route.route-index _ c.outgoing.result
    c.loop-route-test.true c.loop-route.invariant c.in_ok-push_option.ensures.ok c.outgoing.ensures

pub returns : goal.returns
returns c =
    adds_end (λ (o : Offer) (x : AreaRoute). IsOutgoing c.args.domain.now.net c.args.area.now.number o x)
    c.args.offers.now.items c.loop-route.offers.items c.args.routes.now c.loop-route.route-index c.loop-route-test.false c.loop-route.invariant
