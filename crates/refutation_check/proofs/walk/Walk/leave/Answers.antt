use Rattle.std.proofs.Common.{arith}
use Rattle.std.proofs.lemmas.Grind.{common_steps}
use Rattle.std.proofs.Common.{ℕ, sym, ◌∙◌, subst}
use Rattle.order_core.specs.Pairs.{AreBelow}
use Rattle.refutation_check.specs.steps.Walks.{GoesAlong}
use Rattle.refutation_check.proofs.Leaving.{next_below, on, past}
use Rattle.refutation_check.proofs.walk.Walk.leave.Goals as goal

pub assume-requires : goal.assume-requires
assume-requires c =
    subst (λ (k : ℕ). AreBelow k c.in-Some-next.next) (sym c.take_back.ensures.routers)
    (next_below c.loop-cursor.assumed.routers c.loop-cursor.assumed.pairs c.loop-cursor.cursors.items c.pop.new.self.items c.self.inside.cursors.items
    c.in-Some.cursor
    c.loop-cursor.invariant.0 c.in-Some.ensures.items c.in-Some-next.ensures.some c.in-Some-next.next c.in-Some-next.ensures.next)

pub invariant_of-result : goal.invariant_of-result
invariant_of-result c =
    subst (λ (k : ℕ). GoesAlong k c.assume.new.assumed.pairs c.push.new.self.items) (sym (c.assume.ensures.routers ∙ c.take_back.ensures.routers))
    (on c.loop-cursor.assumed.routers c.loop-cursor.assumed.pairs c.loop-cursor.cursors.items c.pop.new.self.items c.self.inside.cursors.items
    c.in-Some.cursor
    c.loop-cursor.invariant.0 c.in-Some.ensures.items c.in-Some-next.ensures.some c.take_back.new.self.pairs c.assume.new.assumed.pairs c.in-Some-next.next
    c.push.new.self.items
    c.take_back.ensures.pairs c.in-Some-next.ensures.next c.assume.ensures.some c.in_ok-assume.ensures.pairs c.in_ok-push.ensures.items)

pub loop-cursor-preserved : goal.loop-cursor-preserved
loop-cursor-preserved c = grind (arith, common_steps, past)
