use Rattle.ospf_routes.proofs.IntraFacts.{destination_is}
use Rattle.ospf_routes.proofs.SubnetFacts.{homes_are, subnet_routes_are}
use Rattle.ospf_routes.specs.declared.intra_area.Destination.{Destination}
use Rattle.ospf_routes.proofs.intra_area.Destination.build.Goals as goal

pub returns-clause-is : goal.returns-clause-is
returns-clause-is c =
    let net = c.args.domain.now.net in
    let p = c.args.dest in
    let all = c.args.subnets.now in
    let near = c.around-near.result.now in
    let d : Destination = record { dest = p; homes = c.in_ok-homes.homes; parts = c.in_ok-parts.parts } in
    destination_is c.args.domain.now c.put_routes.new.routes.items c.as_slice.result.now d c.requires.areas
    (homes_are net p all near d.homes.items c.requires.subnets c.around-near.ensures c.in_ok-homes.ensures)
    (subnet_routes_are net p all near c.put_routes.new.routes.items c.requires.subnets c.around-near.ensures c.in_ok-put_routes.ensures)
    c.as_slice.ensures.value c.in_ok-parts.ensures.each c.in_ok-parts.ensures.every
