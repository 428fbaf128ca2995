use Rattle.std.specs.List.{Any}
use Rattle.route_tables.proofs.ListFacts.{adds_more, adds_same, adds_end}
use Rattle.ospf_routes.proofs.SummaryFacts.{subnets_are}
use Rattle.ospf_routes.specs.steps.Summarized.{IsAreaSubnet, SummarizedSubnet}
use Rattle.ospf_routes.specs.declared.area_route.AreaRoute.{AreaRoute}
use Rattle.ospf_routes.specs.declared.intra_area.AreaOffers.{AreaOffers}
use Rattle.ospf_routes.proofs.area_boundary.push_subnets.Goals as goal

pub loop-part-preserved : goal.loop-part-preserved
loop-part-preserved c =
    adds_more (λ (r : AreaRoute) (part : AreaOffers). IsAreaSubnet c.args.domain.now.net c.args.destination.now.dest part.area r)
    c.args.routes.now.items c.loop-part.routes.items c.push_area_subnets.new.routes.items c.as_slice-part-items.result.now c.loop-part.part-index
    c.part-item.result c.loop-part-test.true c.part-item.is c.loop-part.invariant c.in_ok-push_area_subnets.ensures

pub returns : goal.returns
returns c =
    let net = c.args.domain.now.net in
    let d = c.args.destination.now in
    let given = c.as_slice-part-items.result.now in
    adds_same c.args.routes.now.items c.loop-part.routes.items (λ (r : AreaRoute). Any (λ (part : AreaOffers). IsAreaSubnet net d.dest part.area r) given)
    (λ (r : AreaRoute). SummarizedSubnet net d.dest r.at r)
    (adds_end (λ (r : AreaRoute) (part : AreaOffers). IsAreaSubnet net d.dest part.area r) c.args.routes.now.items c.loop-part.routes.items given
    c.loop-part.part-index c.loop-part-test.false c.loop-part.invariant)
    (subnets_are net d given c.requires.destination.is c.as_slice-part-items.ensures.value)
