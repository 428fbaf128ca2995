use Rattle.ospf_routes.specs.steps.LaneTwins.{heard_lane}
use Rattle.ospf_routes.proofs.LaneTwinFacts.{outside_later}
use Rattle.ospf_routes.proofs.lane_twins.lane_twin.Goals as goal

-- what has the same entries at every router has them at those of the area
pub returns-in-Some-clause-twin : goal.returns-in-Some-clause-twin
returns-in-Some-clause-twin c =
    let twin = c.requires.twins.each c.args.place c.in-Some.twin c.in-Some.is in
    (twin.0, λ u e lane. twin.1 u e lane.0)

pub returns-in-Some-clause-latest : goal.returns-in-Some-clause-latest
returns-in-Some-clause-latest c =
    outside_later (heard_lane c.args.heard c.args.zone) c.args.heard.destinations.now c.args.place c.args.latest.now c.requires.latest
