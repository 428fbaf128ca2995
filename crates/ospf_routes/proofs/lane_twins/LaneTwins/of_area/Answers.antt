use Rattle.std.proofs.Common.{◌+◌, ℕ, List, Option, subst, sym}
use Rattle.net_addr.specs.Addresses.{Block}
use Rattle.ospf_routes.specs.steps.Destinations.{ospf_prefixes}
use Rattle.ospf_routes.specs.steps.Lanes.{LaneOf}
use Rattle.ospf_routes.specs.steps.LaneTwins.{AreLaneAlike, heard_lane}
use Rattle.ospf_routes.specs.steps.Twins.{AreEarlierBy, IsEarlierBy}
use Rattle.ospf_routes.proofs.LaneTwinFacts.{some_each}
use Rattle.ospf_routes.proofs.TwinFacts.{earlier_more}
use Rattle.ospf_routes.proofs.lane_twins.LaneTwins.of_area.Goals as goal

pub loop-place-preserved : goal.loop-place-preserved
loop-place-preserved c =
    let dests : List Block = ospf_prefixes c.args.heard.destinations.now in
    let place : ℕ = c.loop-place.place in
    let l : LaneOf = heard_lane c.args.heard c.args.zone in
    record {
      twins = subst (AreEarlierBy (AreLaneAlike l) dests (place + 1)) (sym {A = List (Option ℕ)} c.in_ok-push.ensures.items)
          (earlier_more (AreLaneAlike l) dests place c.loop-place.all.items c.lane_twin.result c.loop-place.invariant.twins
          (some_each (IsEarlierBy (AreLaneAlike l) dests place) c.lane_twin.result c.lane_twin.ensures.twin));
      latest = c.lane_twin.ensures.latest;
    }
