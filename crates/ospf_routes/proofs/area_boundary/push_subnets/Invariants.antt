use Rattle.std.proofs.Common.{take}
use Rattle.std.specs.List.{Any}
use Rattle.ospf_routes.specs.Lists.{Adds}
use Rattle.ospf_routes.specs.steps.Summarized.{IsAreaSubnet}
use Rattle.ospf_routes.specs.declared.area_route.AreaRoute.{AreaRoute}
use Rattle.ospf_routes.specs.declared.intra_area.AreaOffers.{AreaOffers}
use Rattle.ospf_routes.proofs.area_boundary.push_subnets.Given as goal

abbrev pub invariant-loop-part : goal.invariant-loop-part
invariant-loop-part l = Adds l.initial.routes.items l.routes.items
    (λ (r : AreaRoute). Any (λ (part : AreaOffers). IsAreaSubnet l.domain.net l.destination.dest part.area r) (take l.part-index l.part-items))
