use Rattle.route_tables.proofs.ListFacts.{iff_then}
use Rattle.isis_routes.proofs.homes.sorted_homes.Goals as goal

pub returns-clause-exact : goal.returns-clause-exact
returns-clause-exact c h = iff_then (c.sort_by_base.ensures.kept h) (c.in_ok-homes.ensures h)
