use Rattle.std.proofs.Common.{refl}
use Rattle.isis_routes.proofs.LeadFacts.{asked_down, route_by}
use Rattle.isis_routes.proofs.entry.down_route.Goals as goal

pub best_route-requires-clause-range : goal.best_route-requires-clause-range
best_route-requires-clause-range c =
    (asked_down c.args.asked c.as_slice-down.result.now c.if-not-runs_level_one.ensures.known c.requires.asked c.requires.away c.requires.without_levels
    (c.if-not-runs_level_one.ensures.runs.0 refl) c.as_slice-down.ensures.value).range

pub returns : goal.returns
returns c =
    route_by c.best_route.result
    (asked_down c.args.asked c.as_slice-down.result.now c.if-not-runs_level_one.ensures.known c.requires.asked c.requires.away c.requires.without_levels
    (c.if-not-runs_level_one.ensures.runs.0 refl) c.as_slice-down.ensures.value) c.best_route.ensures
