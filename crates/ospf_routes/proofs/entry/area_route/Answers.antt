use Rattle.ospf_routes.proofs.ZoneRoutes.{zone_route}
use Rattle.ospf_routes.specs.steps.Asked.{HasIntraRoute, HasNoIntraRoute}
use Rattle.ospf_routes.proofs.entry.area_route.Goals as goal

pub returns-in-Some : goal.returns-in-Some
returns-in-Some c =
    let asked = c.args.asked in
    let d = c.in-Some.inside in
    let is = c.in-Some.ensures.some in
    zone_route asked.domain.now.net asked.domain.now.areas asked.router d.zone c.routers-count.result d.walks.now d.offers.now (HasNoIntraRoute asked)
    (HasIntraRoute asked) c.best_route.result is.zone is.same c.routers-count.ensures.count is.hops c.best_route.ensures
