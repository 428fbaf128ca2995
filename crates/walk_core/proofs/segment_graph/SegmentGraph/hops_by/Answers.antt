use Rattle.std.proofs.Common.{ℕ, List, Option, ap, sym, subst, ◌∙◌}
use Rattle.walk_core.specs.steps.Rows.{AreDistanceRows}
use Rattle.walk_core.specs.Reach.{Reach}
use Rattle.walk_core.specs.Segments.{AreSegments, SendsAcross}
use Rattle.walk_core.specs.declared.segment.Port.{Port}
use Rattle.walk_core.specs.steps.SegmentWalks.{IsMesh, Joined}
use Rattle.walk_core.proofs.segment_graph.SegmentGraph.hops_by.Goals as goal

pub new-ways-requires : goal.new-ways-requires
new-ways-requires c =
    let count : ℕ = c.count-count.result in
    let segments : List (List Port) = c.self.inside.segments.now in
    let rows : List (List (Option ℕ)) = c.args.rows.now in
    let beyond : List Reach = c.in_ok-beyond.beyond.items in
    let counted : AreDistanceRows (SendsAcross c.args.self.now.segments) count count rows =
    subst (λ (n : ℕ). AreDistanceRows (SendsAcross c.args.self.now.segments) n n rows) (sym c.count-count.ensures.value) c.requires.rows in
    subst (λ (b : List Reach). IsMesh (record { count = count; segments = segments; rows = rows; beyond = b })) (sym c.as_slice.ensures.value) (record {
      ports = subst (λ (n : ℕ). AreSegments n segments) (ap (λ (j : Joined). j.count) c.self.view_is ∙ sym c.count-count.ensures.value)
          c.self.invariant.segments;
      rows = subst (λ (j : Joined). AreDistanceRows (SendsAcross j.segments) count count rows) (sym c.self.view_is) counted;
      beyond = c.in_ok-beyond.ensures;
    })
