use Rattle.std.proofs.Common.{[], ℕ}
use Rattle.ospf_routes.specs.steps.Places.{AreEach}
use Rattle.ospf_routes.specs.steps.LaneTwins.{AreTwinsAlone, heard_lane}
use Rattle.ospf_routes.proofs.lane_twins.all_lane_twins.Given as goal

abbrev pub invariant-loop-zone : goal.invariant-loop-zone
invariant-loop-zone l =
    AreEach (λ (zone : ℕ). AreTwinsAlone l.heard.destinations.now (heard_lane l.heard zone)) [] l.zone l.all.items
