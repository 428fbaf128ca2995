use Rattle.std.proofs.Common.{refl}
use Rattle.std.proofs.lemmas.Bool.{false≢true}
use Rattle.isis_routes.proofs.LeadFacts.{default_leads, route_by}
use Rattle.isis_routes.proofs.entry.default_route.Goals as goal

pub best_route-requires-clause-range : goal.best_route-requires-clause-range
best_route-requires-clause-range c =
    (default_leads c.args.asked c.attached.result.now c.if-not-runs_level_one.ensures.known c.attached.ensures c.requires.asked
    c.requires.away c.requires.without_levels c.requires.without_down (c.if-not-is_all_addresses.ensures.0 refl)
    (c.if-not-runs_level_one.ensures.runs.0 refl) (λ runs. false≢true (c.if-runs_level_two.ensures.runs.1 runs))).range

pub returns : goal.returns
returns c =
    route_by c.best_route.result
    (default_leads c.args.asked c.attached.result.now c.if-not-runs_level_one.ensures.known c.attached.ensures c.requires.asked
    c.requires.away c.requires.without_levels c.requires.without_down (c.if-not-is_all_addresses.ensures.0 refl)
    (c.if-not-runs_level_one.ensures.runs.0 refl) (λ runs. false≢true (c.if-runs_level_two.ensures.runs.1 runs))) c.best_route.ensures
