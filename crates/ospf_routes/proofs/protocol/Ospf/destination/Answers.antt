use Rattle.std.proofs.Common.{◌<◌, length, sym, subst}
use Rattle.route_tables.proofs.DestinationLists.{element_at}
use Rattle.ospf_routes.specs.steps.Destinations.{IsDestinationIn, ospf_prefixes}
use Rattle.ospf_routes.specs.steps.Networks.{OspfNetwork}
use Rattle.ospf_routes.specs.declared.intra_area.Destination.{Destination}
use Rattle.ospf_routes.proofs.protocol.Ospf.destination.Goals as goal

pub returns-clause-known : goal.returns-clause-known
returns-clause-known c =
    let within = subst (λ (ospf : OspfNetwork). c.args.place < length (ospf_prefixes ospf.destinations)) (sym c.self.view_is) c.requires in
    let d : Destination = c.index.result.now in
    subst (λ (ospf : OspfNetwork). IsDestinationIn ospf.domain d) c.self.view_is
    (element_at (λ (x : Destination). x.dest) (IsDestinationIn c.self.inside.domain) c.self.inside.destinations.items
    c.args.place d c.self.invariant.destinations.each within c.index.ensures)
