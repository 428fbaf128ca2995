use Rattle.std.proofs.Common.{◌∙◌, ap}
use Rattle.order_core.proofs.WaveSteps.{part_added, part_passed}
use Rattle.order_core.proofs.waves.push_wave.Goals as goal
use Rattle.order_core.proofs.waves.push_wave.Goals.{then-ranks-router+in_ok-push, else-ranks-router}

pub loop-router-preserved : goal.loop-router-preserved
loop-router-preserved c = elim c.if-ranks-router.branch [
  | then-ranks-router+in_ok-push w ↦
      part_added c.args.ranks.now c.args.flat.now.items c.loop-router.flat.items c.if-ranks-router.flat.items c.args.wave c.loop-router.router
      c.loop-router.invariant w.if-ranks-router.true (ap (λ v. v.items) w.flat-is ∙ w.in_ok-push.ensures.items)
  | else-ranks-router w ↦
      ap (λ v. v.items) w.flat-is
      ∙ part_passed c.args.ranks.now c.args.flat.now.items c.loop-router.flat.items c.args.wave c.loop-router.router c.loop-router.invariant
      w.if-ranks-router.false
]
