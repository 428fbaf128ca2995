use Rattle.std.proofs.Common.{◌≡◌, ℕ, ◌+◌, ◌-◌, ◌<◌, ◌≤◌, true, Bool, List, length, set, sym, subst, ◌∙◌, arith, length-set}
use Rattle.order_core.specs.Marks.{marked_count}
use Rattle.order_core.proofs.Marked.{marked_count-more, marked_count-le, marked_in}
use Rattle.network_survey.specs.steps.Reached.{AreReachedSoFar}
use Rattle.network_survey.proofs.ReachFacts.{AreReachedSoFar-more}
use Rattle.network_survey.proofs.joined.reach.Goals as goal

pub loop-router-preserved : goal.loop-router-preserved
loop-router-preserved c net lists before =
    let open_one = c.in-Some.ensures in
    let made = AreReachedSoFar-more net c.args.ports.now lists c.loop-router.reached c.spread.new.reached c.loop-router.done c.in-Some.router open_one
    c.spread.auto.reached c.spread.ensures (c.loop-router.invariant net lists before) in
    subst (AreReachedSoFar net c.spread.new.reached) (sym c.mark.ensures) made

pub loop-router-smaller : goal.loop-router-smaller
loop-router-smaller c =
    let done = c.loop-router.done in
    let u = c.in-Some.router in
    let within : u < length done = subst (λ (n : ℕ). u < n) (c.loop-router.auto.reached ∙ sym c.requires.done ∙ sym c.loop-router.auto.done) (marked_in c.loop-router.reached u c.in-Some.ensures.is_reached) in
    let more : marked_count (set done u true) ≡ marked_count done + 1 = marked_count-more done u within c.in-Some.ensures.not_done in
    let most : marked_count (set done u true) ≤ length (set done u true) = marked_count-le (set done u true) in
    let long : length (set done u true) ≡ length done = length-set done u true in
    subst (λ (l : List Bool). length l - marked_count l < length done - marked_count done) (sym c.mark.ensures) (omega (arith, more, most, long))
