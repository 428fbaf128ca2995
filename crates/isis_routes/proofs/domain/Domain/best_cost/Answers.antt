use Rattle.std.proofs.Common.{arith}
use Rattle.std.proofs.lemmas.Grind.{common_steps}
use Rattle.std.proofs.Common.{◌∙◌, ap}
use Rattle.isis_routes.specs.steps.LevelReach.{level_reach}
use Rattle.isis_routes.proofs.LevelRoutes.{listed_cost, small_in_range}
use Rattle.isis_routes.proofs.domain.Domain.best_cost.Goals as goal

pub best_cost-requires : goal.best_cost-requires
best_cost-requires c = grind (arith, common_steps, small_in_range)

pub returns : goal.returns
returns c =
    listed_cost c.args.self.now.net c.args.level c.args.self.now.walks c.args.router c.walks.result.now c.args.offers.now
    c.walks.ensures.known.walks c.requires.router
    (c.walks.ensures.reach ∙ ap (level_reach c.args.self.now.walks c.args.router) c.zone.ensures) c.best_cost.result c.best_cost.ensures
