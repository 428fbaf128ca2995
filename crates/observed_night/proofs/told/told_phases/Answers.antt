use Rattle.std.proofs.Common.{arith, inl}
use Rattle.observed_night.proofs.StateFacts.{pushed_long, told_more}
use Rattle.observed_night.proofs.told.told_phases.Goals as goal

pub told_phase-requires-clause-some : goal.told_phase-requires-clause-some
told_phase-requires-clause-some c = λ not.
    c.requires.none c.loop-router.router (record { router = omega arith; why = inl not })

pub loop-router-preserved : goal.loop-router-preserved
loop-router-preserved c = record {
  long = pushed_long c.loop-router.phases.items _ _ c.loop-router.router c.in_ok-push.ensures.items c.loop-router.invariant.long;
  told =
      told_more c.args.before.now c.args.now.now c.args.ranks.now c.loop-router.phases.items _ _ c.loop-router.router
      c.loop-router.invariant.long c.in_ok-push.ensures.items c.loop-router.invariant.told c.told_phase.ensures;
}
