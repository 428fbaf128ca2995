use Rattle.std.proofs.Common.{Bool, List, ℕ, sym, subst}
use Rattle.walk_core.specs.Segments.{SendsAcross}
use Rattle.walk_core.specs.steps.Kept.{StayLeast, LosesSegments}
use Rattle.walk_core.specs.steps.SegmentWalks.{Joined}
use Rattle.walk_core.proofs.kept.segment_walks_without.Goals as goal

pub walks_keeping-requires : goal.walks_keeping-requires
walks_keeping-requires c =
    let loses : LosesSegments c.args.known.segments.now c.args.segments.now c.in-Some.lost.items = rw c.in-Some.is at c.in_ok-lost.ensures.lost in
    let kept : StayLeast (SendsAcross c.args.segments.now) c.args.count c.in_ok-roots.roots.items c.args.known.walks.now =
    c.in_ok-roots.ensures c.args.segments.now
    (subst (λ (l : List ℕ). LosesSegments c.args.known.segments.now c.args.segments.now l) (sym c.as_slice.ensures.value) loses) in
    subst (λ (g : Joined). StayLeast (SendsAcross g.segments) g.count c.as_slice-3.result.now c.args.known.walks.now) (sym c.new-graph.ensures)
    (subst (λ (l : List Bool). StayLeast (SendsAcross c.args.segments.now) c.args.count l c.args.known.walks.now) (sym c.as_slice-3.ensures.value) kept)
