use Rattle.std.proofs.Common.{arith}
use Rattle.std.proofs.lemmas.Grind.{common_steps}
use Rattle.std.proofs.Common.{MatchOption}
use Rattle.std.proofs.lemmas.Bool.{false≢true}
use Rattle.std.proofs.lemmas.Option.{MatchOption-at_none}
use Rattle.std.proofs.lemmas.Result.{IfOk-weaker}
use Rattle.walk_core.specs.BestOffers.{NoneTotals}
use Rattle.route_tables.proofs.BestRoutes.{route_by_discard}
use Rattle.ospf_routes.specs.steps.Asked.{IsFoundRoute, IsRoute}
use Rattle.ospf_routes.proofs.EntryFacts.{found_by, home_is, range_is}
use Rattle.ospf_routes.proofs.entry.route_of.Goals as goal

pub returns-then-contains : goal.returns-then-contains
returns-then-contains c = grind (arith, common_steps, MatchOption-at_none, false≢true, home_is, range_is, route_by_discard)

pub announced-requires-clause-no_range : goal.announced-requires-clause-no_range
announced-requires-clause-no_range c = λ is. false≢true (c.if-contains.ensures.1 ((range_is c.args.asked c.requires).1 is))

pub route_by-requires-clause-away : goal.route_by-requires-clause-away
route_by-requires-clause-away c = λ is. false≢true (c.if-is_home.ensures.1 ((home_is c.args.asked c.requires).1 is))

pub returns-in-Some-announced : goal.returns-in-Some-announced
returns-in-Some-announced c =
    let asked = c.args.asked in
    let None : Type 0 = NoneTotals c.in-Some-announced.deciding.walks.now c.in-Some-announced.deciding.offers.now in
    IfOk-weaker c.route_by.result (λ found. MatchOption found None (IsRoute asked)) (IsFoundRoute asked)
    (λ found is. found_by asked None found c.in-Some-announced.ensures.reached is) c.route_by.ensures
