use Rattle.std.proofs.Common.{ℕ, get_or, arith, ◌∙◌, subst, below_more}
use Rattle.std.proofs.lemmas.List.{get_or_default}
use Rattle.loop_finder.specs.Calm.{IsUnstirred}
use Rattle.loop_finder.specs.Times.{times_in}
use Rattle.loop_finder.proofs.calm.stirs_in.Goals as goal

pub loop-router-preserved : goal.loop-router-preserved
loop-router-preserved c = record {
  calm = below_more (λ (k : ℕ). IsUnstirred c.args.part.now (times_in c.args.wave.now.times.now) c.args.wave.now.number (get_or c.args.steppers.now k 0))
      c.loop-router.router-index c.loop-router.invariant.calm c.if-stirs.ensures.never;
  room = c.if-stirs.ensures.room;
  ring = c.if-stirs.ensures.ring ∙ c.loop-router.invariant.ring;
}

pub returns-clause-calm : goal.returns-clause-calm
returns-clause-calm c k d within =
    subst (IsUnstirred c.args.part.now (times_in c.args.wave.now.times.now) c.args.wave.now.number) (get_or_default c.args.steppers.now k 0 d within)
    (c.loop-router.invariant.calm k (omega (arith, within, c.loop-router-test.false)))
