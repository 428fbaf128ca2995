use Rattle.std.proofs.Common.{◌≡◌, List, get_or, subst}
use Rattle.route_tables.proofs.DestinationLists.{element_at}
use Rattle.isis_routes.specs.steps.Destinations.{HasAnnouncements}
use Rattle.isis_routes.specs.declared.destinations.Destination.{Destination}
use Rattle.isis_routes.proofs.protocol.Isis.destination.Goals as goal

pub returns-clause-announced : goal.returns-clause-announced
returns-clause-announced c =
    let d : Destination = c.index-known-place.result in
    element_at (λ (x : Destination). x.one.dest) (HasAnnouncements c.args.self.now.domain.net) c.args.self.now.destinations c.args.place d
    c.known.ensures.known.announced c.requires
    (subst (λ (l : List Destination). d ≡ get_or l c.args.place d) c.known.ensures.is c.index-known-place.is)
