use Rattle.std.proofs.Common.{◌+◌, [], ℕ, Option, List, sym, subst}
use Rattle.ospf_routes.specs.steps.Places.{AreEach}
use Rattle.ospf_routes.specs.steps.LaneTwins.{AreTwinsAlone, heard_lane}
use Rattle.ospf_routes.proofs.PlaceFacts.{places_more}
use Rattle.ospf_routes.proofs.lane_twins.all_lane_twins.Goals as goal

pub loop-zone-preserved : goal.loop-zone-preserved
loop-zone-preserved c =
    let Are : ℕ → List (Option ℕ) → Type 0 =
    λ zone. AreTwinsAlone c.args.heard.destinations.now (heard_lane c.args.heard zone) in
    subst (λ (l : List (List (Option ℕ))). AreEach Are [] (c.loop-zone.zone + 1) l) (sym {A = List (List (Option ℕ))} c.in_ok-push.ensures.items)
    (places_more Are [] c.loop-zone.zone c.loop-zone.all.items c.in_ok-of_area.field-0 c.loop-zone.invariant c.in_ok-of_area.ensures)
