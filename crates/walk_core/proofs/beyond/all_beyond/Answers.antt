use Rattle.std.proofs.Common.{◌+◌, ℕ, List, sym, subst}
use Rattle.walk_core.specs.steps.Flooding.{segment_at}
use Rattle.walk_core.specs.Reach.{Reach}
use Rattle.walk_core.specs.steps.SegmentWalks.{AreWalksFrom, IsLan, KnowsBeyond, Mesh}
use Rattle.walk_core.specs.declared.segment.Port.{Port}
use Rattle.walk_core.proofs.SegmentSteps.{knows_segment}
use Rattle.walk_core.proofs.beyond.all_beyond.Goals as goal

pub loop-place-preserved : goal.loop-place-preserved
loop-place-preserved c =
    let place : ℕ = c.loop-place.place in
    let mesh : Mesh = record { count = c.args.count; segments = c.args.segments.now; rows = c.args.rows.now; beyond = c.loop-place.beyond.items } in
    let reach : Reach = c.in_ok-walks_beyond.field-0 in
    let from : IsLan (segment_at mesh.segments place) → AreWalksFrom mesh.rows (segment_at mesh.segments place) mesh.count reach =
    subst (λ (l : List Port). IsLan l → AreWalksFrom mesh.rows l mesh.count reach) c.ports_at.ensures c.in_ok-walks_beyond.ensures in
    subst (λ (l : List Reach). KnowsBeyond (record { count = mesh.count; segments = mesh.segments; rows = mesh.rows; beyond = l }) (place + 1))
    (sym {A = List Reach} c.in_ok-push.ensures.items) (knows_segment mesh place reach c.loop-place.invariant from)
