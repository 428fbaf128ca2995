use Rattle.ospf_routes.specs.steps.AreaReach.{IsThisBorder}
use Rattle.ospf_routes.specs.Lists.{Adds}
use Rattle.route_tables.proofs.ListFacts.{AnyBelow}
use Rattle.ospf_routes.proofs.domain.Domain.borders.Given as goal

abbrev pub invariant-loop-u : goal.invariant-loop-u
invariant-loop-u l = Adds l.initial.borders.items l.borders.items (AnyBelow (IsThisBorder l.self.net) l.u)
