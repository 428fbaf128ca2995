use Rattle.std.proofs.Common.{inl, inr, arith}
use Rattle.std.proofs.lemmas.Bool.{cases_lt}
use Rattle.std.proofs.lemmas.Grind.{common_steps}
use Rattle.loop_finder.proofs.LiveLaws.{marked_below, returns_never}
use Rattle.loop_finder.proofs.Peeling.{bounded_first}
use Rattle.loop_finder.proofs.WalkSteps.{found_from_walk}
use Rattle.loop_finder.proofs.ring.find_ring.Goals as goal

pub loop-start-init : goal.loop-start-init
loop-start-init g c = grind (arith, common_steps, bounded_first)

pub returns-in-Some-clause-found : goal.returns-in-Some-clause-found
returns-in-Some-clause-found g c = found_from_walk _ c.walk.new.live _ c.loop-start.start c.in-Some.place c.walk.new.path.items c.turn.new.path.items
    (omega (arith, c.walk.auto.live, c.loop-start.auto.live, c.requires.size)) c.in-Some.ensures.bounded
    (λ q there. elim (cases_lt q c.loop-start.start) [
      | inl below ↦ absurd (c.loop-start.invariant.dead q below (c.in-Some.ensures.fewer q there))
      | inr past ↦ past
    ]) c.in-Some.ensures.end c.turn.ensures.turned

pub returns-clause-none : goal.returns-clause-none
returns-clause-none g c = returns_never _ c.loop-start.live c.loop-start.invariant.bounded
    (λ q there. c.loop-start.invariant.dead q
    (omega (
      arith,
      marked_below c.loop-start.live q there,
      c.loop-start.auto.live,
      c.mark_all.auto.marks,
      c.requires.size,
      c.size-start-end.ensures.count,
      c.loop-start-test.false,
    )) there)
