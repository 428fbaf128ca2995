use Rattle.route_tables.specs.Lists.{Adds}
use Rattle.route_tables.proofs.ListFacts.{AnyBelow}
use Rattle.igp_theory.specs.Isis.{Leaks}
use Rattle.isis_routes.specs.steps.Routing.{IsThisRouter}
use Rattle.isis_routes.proofs.runs.leaking_routers.Given as goal

abbrev pub invariant-loop-u : goal.invariant-loop-u
invariant-loop-u l = Adds l.initial.routers.items l.routers.items (AnyBelow (IsThisRouter (Leaks l.net)) l.u)
