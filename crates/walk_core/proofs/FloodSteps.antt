-- A flood goes on over one vertex of a segment.
use Rattle.std.proofs.Common.{◌≡◌, ◌∙◌, ◌<◌, ◌↔◌, ℕ, Bool, true, false, IsTrue, List, Option, Some, Contains, cond, length, length-set, set}
use Rattle.std.proofs.Common.{refl, sym, ap, subst, arith}
use Rattle.walk_core.specs.Distances.{distance_at}
use Rattle.walk_core.specs.Segments.{AreSegments, Sends}
use Rattle.walk_core.specs.declared.flood.Flood.{Flood}
use Rattle.walk_core.specs.declared.segment.Port.{Port}
use Rattle.walk_core.specs.steps.Cheapest.{HasCost}
use Rattle.walk_core.specs.steps.Flooding.{AreEntered, Lowers, cost_onto, segment_at}
use Rattle.walk_core.specs.steps.Floods.{IsFlood, marked_in}
use Rattle.walk_core.specs.steps.Relaxing.{Fall, IsAtMost, weight_of}
use Rattle.walk_core.specs.steps.SegmentWalks.{Joined}
use Rattle.walk_core.proofs.FloodLaws.{IsLowered, lowered, segment_among}
use Rattle.walk_core.proofs.StaleLaws.{entered_on, lowers_one}

-- a vertex is lowered, where it was higher
pub record IsFloodLowered (graph : Joined) (place found v : ℕ) (before after : Flood) : Type 0 where
  pub flood : IsFlood graph after
  pub falls : Fall (Sends graph.segments) before.distances.items after.distances.items
  pub lowers : Lowers found (marked_in before) (marked_in after)
  pub entry : HasCost (cost_onto after.distances.items) (segment_at graph.segments place) found
  pub tight : IsAtMost (distance_at after.distances.items v) found

length_kept : {X : Type 0} (fell : Bool) (l : List X) (v : ℕ) (x : X) → length (cond fell (set l v x) l) ≡ length l
length_kept false l v x = refl
length_kept true l v x = length-set l v x

pub flood_lowered : (graph : Joined) (place found : ℕ) (port : Port) (before after : Flood) (fell : Bool) → place < length graph.segments →
    IsFlood graph before → HasCost (cost_onto before.distances.items) (segment_at graph.segments place) found →
    Contains (segment_at graph.segments place) port → (IsTrue fell ↔ (found < weight_of (distance_at before.distances.items port.vertex))) →
    after.distances.items ≡ cond fell (set before.distances.items port.vertex (Some found)) before.distances.items →
    after.stale.items ≡ cond fell (set before.stale.items port.vertex true) before.stale.items → after.entries.items ≡ before.entries.items →
    IsFloodLowered graph place found port.vertex before after
flood_lowered graph place found port before after fell within is entry among falls after_is stale_is entries_is =
    let segments : List (List Port) = graph.segments in
    let now : List (Option ℕ) = before.distances.items in
    let are : AreSegments (length now) segments = subst (λ (n : ℕ). AreSegments n segments) (sym is.long) is.joined.segments in
    let below : port.vertex < graph.count =
    (is.joined.segments (segment_at segments place) (segment_among segments place within) port among).vertex in
    let step : IsLowered (Sends segments) (segment_at segments place) now after.distances.items port.vertex found =
    lowered segments place now after.distances.items port found fell within are is.room entry among falls after_is in
    record {
      flood = record {
        joined = is.joined;
        long = ap (λ (l : List (Option ℕ)). length l) after_is ∙ length_kept fell now port.vertex (Some found) ∙ is.long;
        marks = ap (λ (l : List Bool). length l) stale_is ∙ length_kept fell before.stale.items port.vertex true ∙ is.marks;
        room = step.falls.room;
        entered = subst (λ (l : List (Option ℕ)). AreEntered segments after.distances.items l) (sym entries_is)
            (entered_on segments now after.distances.items before.entries.items is.entered step.falls.lower);
      };
      falls = step.falls;
      lowers = lowers_one found port.vertex now after.distances.items before.stale.items after.stale.items fell
          (omega (arith, below, is.long)) (omega (arith, below, is.marks)) falls after_is stale_is;
      entry = step.entry;
      tight = step.tight;
    }
