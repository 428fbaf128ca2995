use Rattle.std.proofs.Common.{take}
use Rattle.std.specs.List.{Any}
use Rattle.ospf_routes.specs.Lists.{Adds}
use Rattle.ospf_routes.specs.steps.Summarized.{IsRangeRoute}
use Rattle.ospf_routes.specs.declared.ranges.ActiveRange.{ActiveRange}
use Rattle.ospf_routes.specs.declared.area_route.AreaRoute.{AreaRoute}
use Rattle.ospf_routes.proofs.area_boundary.push_router_ranges.Given as goal

abbrev pub invariant-loop-active : goal.invariant-loop-active
invariant-loop-active l = Adds l.initial.routes.items l.routes.items
    (λ (r : AreaRoute). Any (λ (a : ActiveRange). IsRangeRoute a l.dest l.b r) (take l.active-index l.ranges))
