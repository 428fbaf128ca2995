use Rattle.std.proofs.Common.{◌≡◌, ◌∙◌, ◌<◌, ◌↔◌, ℕ, true, IsTrue, List, MatchOption, Option, Some, cond, inl, inr, length, set, sym, subst, arith}
use Rattle.walk_core.specs.Distances.{distance_at}
use Rattle.walk_core.specs.Segments.{AreSegments}
use Rattle.walk_core.specs.declared.flood.Flood.{Flood}
use Rattle.walk_core.specs.declared.segment.Port.{Port}
use Rattle.walk_core.specs.steps.Flooding.{IsLastAbove, segment_at}
use Rattle.walk_core.specs.steps.Relaxing.{IsAtMost, weight_of}
use Rattle.walk_core.specs.steps.SegmentWalks.{IsLan, Joined}
use Rattle.walk_core.proofs.FloodLaws.{segment_among}
use Rattle.walk_core.proofs.FloodSteps.{IsFloodLowered, flood_lowered}
use Rattle.walk_core.proofs.flood.cross.Goals as goal

-- what is known where the outlet leads over a link
last_of : (ds : List (Option ℕ)) (ports : List Port) (found to : ℕ) (far : Option ℕ) → far ≡ Some to →
    MatchOption far (IsLan ports) (IsLastAbove ds ports found) → IsLastAbove ds ports found to
last_of ds ports found to far is last = subst (λ (o : Option ℕ). MatchOption o (IsLan ports) (IsLastAbove ds ports found)) is last

-- the vertex of the other end is one of the graph
end_below : (segments : List (List Port)) (place n : ℕ) (ds : List (Option ℕ)) (found to : ℕ) → place < length segments → AreSegments n segments →
    IsLastAbove ds (segment_at segments place) found to → to < n
end_below segments place n ds found to within are last =
    subst (λ (v : ℕ). v < n) last.vertex (are (segment_at segments place) (segment_among segments place within) last.port last.among).vertex

pub lower_vertex-requires : goal.lower_vertex-requires
lower_vertex-requires c =
    let segments : List (List Port) = c.args.graph.now.segments in
    let now : List (Option ℕ) = c.args.flood.now.distances.items in
    let below = end_below segments c.args.outlet.place c.args.graph.now.count now c.args.found c.in-Some.to c.requires.place
    c.requires.flood.joined.segments
    (last_of now (segment_at segments c.args.outlet.place) c.args.found c.in-Some.to c.args.outlet.to c.in-Some.is c.requires.others) in
    record {
      vertex = omega (arith, below, c.requires.flood.long);
      fits = c.requires.fits;
      marks = omega (arith, below, c.requires.flood.marks);
    }

pub returns-in-Some : goal.returns-in-Some
returns-in-Some c =
    let graph : Joined = c.args.graph.now in
    let place : ℕ = c.args.outlet.place in
    let now : Flood = c.args.flood.now in
    let after : Flood = c.lower_vertex.new.flood in
    let to : ℕ = c.in-Some.to in
    let last = last_of now.distances.items (segment_at graph.segments place) c.args.found to c.args.outlet.to c.in-Some.is c.requires.others in
    let step : IsFloodLowered graph place c.args.found last.port.vertex now after =
    flood_lowered graph place c.args.found last.port now after c.lower_vertex.result c.requires.place c.requires.flood c.requires.entry last.among
    (subst (λ (v : ℕ). IsTrue c.lower_vertex.result ↔ (c.args.found < weight_of (distance_at now.distances.items v))) (sym last.vertex)
    c.lower_vertex.ensures.falls)
    (subst (λ (v : ℕ). after.distances.items ≡ cond c.lower_vertex.result (set now.distances.items v (Some c.args.found)) now.distances.items)
    (sym last.vertex) c.lower_vertex.ensures.after)
    (subst (λ (v : ℕ). after.stale.items ≡ cond c.lower_vertex.result (set now.stale.items v true) now.stale.items) (sym last.vertex)
    c.lower_vertex.ensures.stale)
    c.lower_vertex.ensures.entries in
    record {
      flood = step.flood;
      falls = step.falls;
      lowers = step.lowers;
      all = λ port among. elim (last.others port among) [
        | inl same ↦ subst (λ (v : ℕ). IsAtMost (distance_at after.distances.items v) c.args.found) (last.vertex ∙ sym same) step.tight
        | inr most ↦ step.falls.lower port.vertex c.args.found most
      ];
    }
