use Rattle.route_tables.specs.Lists.{Adds}
use Rattle.route_tables.proofs.ListFacts.{AnyBelow}
use Rattle.isis_routes.proofs.HomeFacts.{RouterHome}
use Rattle.isis_routes.proofs.homes.all_homes.Given as goal

abbrev pub invariant-loop-w : goal.invariant-loop-w
invariant-loop-w l = Adds l.initial.homes.items l.homes.items (AnyBelow (RouterHome l.net) l.w)
