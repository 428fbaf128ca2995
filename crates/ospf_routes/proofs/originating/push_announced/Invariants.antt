use Rattle.std.proofs.Common.{take}
use Rattle.std.specs.List.{Any}
use Rattle.walk_core.specs.declared.offers.Offer.{Offer}
use Rattle.ospf_routes.specs.Lists.{Adds}
use Rattle.ospf_routes.specs.steps.Summarized.{IsOutgoing}
use Rattle.ospf_routes.proofs.originating.push_announced.Given as goal

abbrev pub invariant-loop-route : goal.invariant-loop-route
invariant-loop-route l =
    Adds l.initial.offers.items l.offers.items (λ (o : Offer). Any (IsOutgoing l.domain.net l.area.number o) (take l.route-index l.routes))
