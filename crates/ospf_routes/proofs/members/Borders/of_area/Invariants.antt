use Rattle.ospf_routes.specs.steps.Members.{IsThisBorderAmong}
use Rattle.ospf_routes.specs.Lists.{Adds}
use Rattle.route_tables.proofs.ListFacts.{AnyBelow}
use Rattle.ospf_routes.proofs.members.Borders.of_area.Given as goal

abbrev pub invariant-loop-u : goal.invariant-loop-u
invariant-loop-u l = Adds l.initial.routers.items l.routers.items (AnyBelow (IsThisBorderAmong l.net l.members) l.u)
