use Rattle.ospf_routes.specs.steps.Destinations.{ospf_prefixes}
use Rattle.ospf_routes.specs.steps.Lanes.{LaneOf}
use Rattle.ospf_routes.specs.steps.LaneTwins.{AreLaneAlike, AreOutsideBelow, heard_lane}
use Rattle.ospf_routes.specs.steps.Twins.{AreEarlierBy}
use Rattle.ospf_routes.proofs.lane_twins.LaneTwins.of_area.Given as goal

abbrev pub invariant-loop-place : goal.invariant-loop-place
invariant-loop-place l =
    let lane : LaneOf = heard_lane l.heard l.zone in
    record {
      twins : AreEarlierBy (AreLaneAlike lane) (ospf_prefixes l.heard.destinations.now) l.place l.all.items;
      latest : AreOutsideBelow lane l.heard.destinations.now l.place l.latest;
    }
