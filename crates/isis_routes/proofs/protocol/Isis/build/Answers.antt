use Rattle.std.proofs.Common.{List, subst}
use Rattle.isis_routes.specs.steps.Alike.{AreEarlierAlike}
use Rattle.isis_routes.specs.declared.destinations.Destination.{Destination}
use Rattle.isis_routes.proofs.protocol.Isis.build.Goals as goal

pub invariant_of-result : goal.invariant_of-result
invariant_of-result c = record {
  domain = c.net.ensures.known;
  known = c.in_ok-destinations.ensures;
  alike = subst (λ (l : List Destination). AreEarlierAlike l c.in_ok-earlier.earlier.items) c.as_slice.ensures.value c.in_ok-earlier.ensures;
}
