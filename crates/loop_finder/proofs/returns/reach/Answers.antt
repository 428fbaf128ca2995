use Rattle.std.proofs.Common.{ℕ, ◌<◌, length, get_or, arith, below_more}
use Rattle.order_core.specs.Marks.{IsMarked}
use Rattle.loop_finder.proofs.Reaching.{ReachesMore-then}
use Rattle.loop_finder.proofs.returns.reach.Goals as goal

pub loop-router-preserved : goal.loop-router-preserved
loop-router-preserved c = record {
  reached = c.reach_one.ensures.reached c.args.goal c.if-router-goal.false c.loop-router.invariant.reached;
  more = ReachesMore-then _ _ _ _ _ _ c.loop-router.invariant.more c.reach_one.ensures.more;
  routers = below_more (λ (k : ℕ). get_or c.args.routers.now k 0 < length c.reach_one.new.seen → IsMarked c.reach_one.new.seen
      (get_or c.args.routers.now k 0))
      c.loop-router.router-index (λ k below within. c.reach_one.ensures.more.marked (get_or c.args.routers.now k 0)
      (c.loop-router.invariant.routers k below (omega (arith, within, c.reach_one.auto.seen))))
      (λ within. c.reach_one.ensures.router (omega (arith, within, c.reach_one.auto.seen)));
  many = omega (arith, c.loop-router.invariant.many, c.reach_one.auto.seen);
  capacity = omega (arith, c.loop-router.invariant.capacity, c.reach_one.ensures.capacity);
}
