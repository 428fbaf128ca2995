use Rattle.std.proofs.Common.{◌≡◌, ◌++◌, ◌∷◌, [], ◌+◌, ℕ, List, Option, ap, sym, subst, ◌∙◌}
use Rattle.walk_core.proofs.NearestLaws.{ends_ordered}
use Rattle.walk_core.proofs.SegmentSteps.{KnowsBelow, knows_more}
use Rattle.walk_core.proofs.beyond.walks_beyond.Goals as goal

pub loop-v-preserved : goal.loop-v-preserved
loop-v-preserved c =
    let rows = c.args.rows.now in
    let ports = c.args.ports.now in
    let v : ℕ = c.loop-v.v in
    let distances : List (Option ℕ) = c.loop-v.distances.items in
    let hops : List (List ℕ) = c.loop-v.hops in
    let d : Option ℕ = c.in_ok-distance.distance in
    let ends : List ℕ = c.put_in_order.new.numbers.items in
    let far : c.push.new.self.items ≡ distances ++ d ∷ [] = c.in_ok-push.ensures.items in
    let lists : c.push-in-loop-v.new.self ≡ hops ++ ends ∷ [] = c.in_ok-push-2.ensures ∙ ap (λ (l : List ℕ). hops ++ l ∷ []) c.as_slice.ensures.value in
    subst (λ (l : List (Option ℕ)). KnowsBelow rows ports (v + 1) l c.push-in-loop-v.new.self) (sym far)
    (subst (λ (l : List (List ℕ)). KnowsBelow rows ports (v + 1) (distances ++ d ∷ []) l) (sym lists)
    (knows_more rows ports v distances hops d ends c.loop-v.invariant c.in_ok-distance.ensures.nearest
    (ends_ordered rows ports v d c.find_ends.new.ends.items ends c.put_in_order.ensures.kept c.in_ok-distance.ensures.ends)
    c.put_in_order.ensures.ascending))
