use Rattle.std.proofs.Common.{subst}
use Rattle.net_addr.specs.Addresses.{Block}
use Rattle.route_tables.specs.Lanes.{DecidesBehind}
use Rattle.isis_routes.specs.steps.Domain.{IsisDomain}
use Rattle.isis_routes.specs.steps.Lanes.{IsBehindIn}
use Rattle.isis_routes.specs.steps.Routes.{given_by_isis}
use Rattle.isis_routes.proofs.BehindFacts.{behind_decides}
use Rattle.isis_routes.proofs.protocol.IsisProtocol.behind.Goals as goal

pub returns-in-Some : goal.returns-in-Some
returns-in-Some c =
    let d = c.destination.result.now in
    let is = c.destination.ensures in
    let behind = subst (λ (domain : IsisDomain). IsBehindIn domain.net c.in-Some.own c.args.zone d c.behind_of.result) c.domain.ensures c.behind_of.ensures in
    subst (λ (p : Block). DecidesBehind (given_by_isis c.args.self.now.domain) c.args.lane c.args.zone p c.behind_of.result) is.dest
    (λ u lane missed. behind_decides c.args.self.now.domain c.in-Some.own c.args.lane c.args.zone u d c.behind_of.result is.domain is.announced
    c.in-Some.ensures lane behind missed)
