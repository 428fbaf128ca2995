use Rattle.std.proofs.Common.{Option, List, ℕ, MatchOption}
use Rattle.std.proofs.lemmas.Result.{IfOk-weaker}
use Rattle.igp_theory.specs.Ospf.{IntraAreaCost}
use Rattle.walk_core.specs.BestOffers.{NoneTotals}
use Rattle.ospf_routes.proofs.RouteFacts.{area_route_is}
use Rattle.route_tables.specs.BestRoutes.{AreBestHops}
use Rattle.ospf_routes.specs.steps.Routing.{IsAreaRoute}
use Rattle.ospf_routes.proofs.entry.area_hops.Goals as goal

pub returns-in-Some : goal.returns-in-Some
returns-in-Some c p is =
    let net = c.args.domain.now.net in
    let part = c.args.part.now in
    let reach = c.in-Some.walks.now in
    let given = c.as_slice.result.now in
    IfOk-weaker c.best_hops.result
    (λ (found : Option (List ℕ)). MatchOption found (NoneTotals reach given) (AreBestHops reach given c.routers.result))
    (λ (found : Option (List ℕ)). MatchOption found ((cost : ℕ) → IntraAreaCost net part.area p c.args.u cost → ⊥)
    (IsAreaRoute net part.area p c.args.u))
    (λ found best. area_route_is net part.area p c.args.u reach part.offers.items given c.in-Some.ensures.reach is.offers
    c.as_slice.ensures.value c.routers.result c.routers.ensures.count found best)
    c.best_hops.ensures
