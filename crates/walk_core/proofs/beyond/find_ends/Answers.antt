use Rattle.std.proofs.Common.{ℕ, List, Option, get_or, subst}
use Rattle.walk_core.specs.steps.SegmentWalks.{JoinsNearest, Nearest}
use Rattle.walk_core.proofs.NearestLaws.{nearest_of_all, nearest_step}
use Rattle.walk_core.proofs.beyond.find_ends.Goals as goal

pub loop-port-preserved : goal.loop-port-preserved
loop-port-preserved c =
    let ends : List ℕ = c.join_nearest.new.ends.items in
    let vertex : ℕ = (get_or c.args.ports.now c.loop-port.port-index (record { vertex = 0; cost = 0 })).vertex in
    let known : Nearest = record { distance = c.loop-port.nearest; ends = c.loop-port.ends.items } in
    let near : JoinsNearest vertex c.get.result known ends =
    subst (λ (n : Option ℕ). JoinsNearest vertex c.get.result (record { distance = n; ends = c.loop-port.ends.items }) ends) c.get-in-loop-port.ensures.value
    c.in_ok-join_nearest.ensures in
    nearest_step c.args.rows.now c.args.ports.now c.loop-port.port-index _ c.args.v _ c.row_distance-distance.result c.nearer_of-nearest.result
    ends c.loop-port-test.true c.row_distance-distance.ensures c.nearer_of-nearest.ensures
    (subst (λ (d : Option ℕ). JoinsNearest vertex d known ends) c.get.ensures.value near) c.loop-port.invariant

pub returns-clause-nearest : goal.returns-clause-nearest
returns-clause-nearest c =
    (nearest_of_all c.args.rows.now c.args.ports.now c.loop-port.port-index c.args.v _ c.loop-port-test.false c.loop-port.invariant).cheapest
