use Rattle.route_tables.proofs.ListFacts.{adds_step, adds_end}
use Rattle.ospf_routes.specs.steps.Summarized.{IsRangeRoute}
use Rattle.ospf_routes.specs.declared.ranges.ActiveRange.{ActiveRange}
use Rattle.ospf_routes.specs.declared.area_route.AreaRoute.{AreaRoute}
use Rattle.ospf_routes.proofs.area_boundary.push_router_ranges.Goals as goal

pub loop-active-preserved : goal.loop-active-preserved
loop-active-preserved c =
    adds_step (λ (r : AreaRoute) (a : ActiveRange). IsRangeRoute a c.args.dest c.args.b r)
    c.args.routes.now.items c.loop-active.routes.items c.push_option.new.all.items c.args.ranges.now c.loop-active.active-index c.active-item.result
    c.range_route.result c.loop-active-test.true c.active-item.is c.loop-active.invariant c.in_ok-push_option.ensures.ok c.range_route.ensures

pub returns : goal.returns
returns c =
    adds_end (λ (r : AreaRoute) (a : ActiveRange). IsRangeRoute a c.args.dest c.args.b r)
    c.args.routes.now.items c.loop-active.routes.items c.args.ranges.now c.loop-active.active-index c.loop-active-test.false c.loop-active.invariant
