use Rattle.std.proofs.Common.{take}
use Rattle.std.specs.List.{Any}
use Rattle.walk_core.specs.declared.offers.Offer.{Offer}
use Rattle.ospf_routes.specs.Lists.{Adds}
use Rattle.ospf_routes.specs.steps.Offered.{OutsideOf}
use Rattle.ospf_routes.specs.declared.area_route.AreaRoute.{AreaRoute}
use Rattle.ospf_routes.proofs.area_route.put_outside.Given as goal

abbrev pub invariant-loop-route : goal.invariant-loop-route
invariant-loop-route l = Adds l.initial.offers.items l.offers.items
    (λ (o : Offer). Any (λ (r : AreaRoute). OutsideOf l.area r o) (take l.route-index l.routes))
