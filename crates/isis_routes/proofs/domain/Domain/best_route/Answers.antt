use Rattle.std.proofs.Common.{◌∙◌, ℕ, length, IfOk, MatchOption, ap, subst}
use Rattle.net_model.specs.Network.{Network}
use Rattle.walk_core.specs.BestOffers.{NoneTotals}
use Rattle.walk_core.specs.Reach.{Reach}
use Rattle.route_tables.specs.BestRoutes.{IsBestRoute}
use Rattle.isis_routes.specs.steps.LevelReach.{level_reach}
use Rattle.isis_routes.specs.steps.Levels.{zone_number}
use Rattle.isis_routes.proofs.domain.Domain.best_route.Goals as goal

pub returns : goal.returns
returns c =
    let reach : ℕ → Reach = level_reach c.args.self.now.walks c.args.router in
    let Goal : Reach → ℕ → ℕ → Type 0 = λ r zone n. IfOk c.best_route.result
    (λ found. MatchOption found (NoneTotals r c.args.offers.now) (IsBestRoute r c.args.offers.now zone n)) in
    subst (Goal (reach (zone_number c.args.level)) (zone_number c.args.level)) (c.routers.ensures.count ∙ ap (λ (net : Network). length net) c.net.ensures.is)
    (subst (λ (zone : ℕ). Goal (reach zone) zone c.routers.result) c.zone-number.ensures
    (subst (λ (r : Reach). Goal r c.zone-number.result c.routers.result) c.walks-walks.ensures.reach c.best_route.ensures))
