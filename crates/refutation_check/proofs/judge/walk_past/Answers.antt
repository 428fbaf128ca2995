use Rattle.std.proofs.Common.{◌∙◌, [], take}
use Rattle.order_core.specs.Pairs.{Pair}
use Rattle.refutation_check.proofs.Heads.{pair_more}
use Rattle.refutation_check.proofs.judge.walk_past.Goals as goal

-- the pair that is read where there is none
abbrev no_pair : Pair
no_pair = (0, 0)

pub loop-before-preserved : goal.loop-before-preserved
loop-before-preserved c = (
  c.in_ok-walk.ensures.left (take c.loop-before.before-index c.args.base.now) [] c.loop-before.invariant.0
      ∙ pair_more c.args.base.now c.loop-before.before-index no_pair c.loop-before-test.true,
  c.in_ok-walk.ensures.routers ∙ c.loop-before.invariant.1,
)
