use Rattle.std.proofs.Common.{ℕ, ap, subst}
use Rattle.net_addr.specs.Addresses.{Block}
use Rattle.route_tables.specs.Lanes.{DecidesAt, DecidesFor}
use Rattle.isis_routes.specs.steps.Domain.{IsisDomain}
use Rattle.isis_routes.specs.steps.Lanes.{IsDecisionOf, first_zone}
use Rattle.isis_routes.specs.steps.Routes.{given_by_isis}
use Rattle.isis_routes.proofs.LaneFacts.{lane_decides}
use Rattle.isis_routes.proofs.protocol.IsisProtocol.decision.Goals as goal

pub returns-in-Some : goal.returns-in-Some
returns-in-Some c =
    let routes = given_by_isis c.args.self.now.domain in
    let own = c.in-Some.own in
    let d = c.destination.result.now in
    let is = c.destination.ensures in
    let decided = subst (λ (domain : IsisDomain). IsDecisionOf domain.net own d c.decision_of.result) c.domain.ensures c.decision_of.ensures in
    subst (λ (p : Block). DecidesFor routes c.args.lane p c.decision_of.result) is.dest
    (λ u lane. subst (λ (zone : ℕ). DecidesAt routes zone u d.one.dest c.decision_of.result) (ap first_zone c.in-Some.ensures)
    (lane_decides c.args.self.now.domain own u d c.decision_of.result is.domain is.announced lane.below (lane.of_lane own c.in-Some.ensures) decided))
