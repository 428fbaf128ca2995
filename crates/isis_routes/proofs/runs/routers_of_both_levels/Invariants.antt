use Rattle.route_tables.specs.Lists.{Adds}
use Rattle.route_tables.proofs.ListFacts.{AnyBelow}
use Rattle.isis_routes.specs.steps.Routing.{RunsBothLevels, IsThisRouter}
use Rattle.isis_routes.proofs.runs.routers_of_both_levels.Given as goal

abbrev pub invariant-loop-u : goal.invariant-loop-u
invariant-loop-u l = Adds l.initial.routers.items l.routers.items (AnyBelow (IsThisRouter (RunsBothLevels l.net)) l.u)
