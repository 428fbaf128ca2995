use Rattle.std.proofs.Common.{◌∙◌, sym}
use Rattle.std.proofs.lemmas.Bool.{false≢true}
use Rattle.route_tables.proofs.ListFacts.{none_of, some_of}
use Rattle.isis_routes.proofs.LeakedOffers.{leaked_is, leaks_none, leaks_within}
use Rattle.isis_routes.proofs.leaked.leaked_cost.Goals as goal

pub best_cost-requires-clause-router : goal.best_cost-requires-clause-router
best_cost-requires-clause-router c = leaks_within c.args.domain.now.net c.args.router c.requires.leaks

pub returns-then-is_some : goal.returns-then-is_some
returns-then-is_some c k =
    let cost = some_of c.cost.result (sym c.is_some.ensures ∙ c.if-is_some.true) in
    leaks_none c.args.domain.now.net c.args.one.now.dest c.args.router k
    (λ down. down.without_level_one (record { cost = cost.0; costs = (c.cost.ensures cost.0).0 cost.1 }))

pub returns : goal.returns
returns c =
    leaked_is c.args.domain.now.net c.args.one.now.dest c.args.router c.args.two.now c.best_cost.result c.requires.leaks
    (λ connected. false≢true (c.if-is_connected.ensures.1 ((c.requires.one.homes c.args.router).1 connected)))
    (λ route. none_of c.cost.result (sym c.is_some.ensures ∙ c.if-is_some.false) route.cost ((c.cost.ensures route.cost).1 route.costs))
    c.requires.two c.best_cost.ensures
