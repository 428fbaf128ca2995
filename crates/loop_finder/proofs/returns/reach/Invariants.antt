use Rattle.std.proofs.Common.{◌≡◌, ℕ, ◌<◌, ◌≤◌, length, get_or}
use Rattle.std.specs.Vec.{vec_capacity}
use Rattle.order_core.specs.Marks.{IsMarked}
use Rattle.loop_finder.specs.steps.Returns.{AreReached, ReachesMore}
use Rattle.loop_finder.proofs.returns.reach.Given as goal

abbrev pub invariant-loop-router : goal.invariant-loop-router
invariant-loop-router l = record {
  reached : AreReached l.goal l.seen l.reached.items;
  more : ReachesMore l.fn.seen l.fn.reached.items l.seen l.reached.items;
  routers : (k : ℕ) → k < l.router-index → get_or l.routers k 0 < length l.seen → IsMarked l.seen (get_or l.routers k 0);
  many : length l.seen ≡ length l.fn.seen;
  capacity : vec_capacity l.fn.reached ≤ vec_capacity l.reached;
}
