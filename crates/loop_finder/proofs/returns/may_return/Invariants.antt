use Rattle.std.proofs.Common.{◌≡◌, ℕ, ◌-◌, ◌<◌, ◌≤◌, length, get_or}
use Rattle.std.specs.Vec.{vec_capacity}
use Rattle.order_core.specs.Marks.{IsMarked}
use Rattle.loop_finder.specs.steps.Returns.{AreReached}
use Rattle.loop_finder.proofs.returns.may_return.Given as goal

abbrev pub invariant-loop-place : goal.invariant-loop-place
invariant-loop-place g l = record {
  reached : AreReached l.router l.seen l.reached.items;
  first : (h : ℕ) → g.G.StepGraph.step l.graph l.router h → h < length l.seen → IsMarked l.seen h;
  spread : (k : ℕ) → k < l.place → (h : ℕ) → g.G.StepGraph.step l.graph (get_or l.reached.items k 0) h → h < length l.seen → IsMarked l.seen h;
  within : l.place ≤ length l.reached.items;
  many : length l.seen ≡ g.G.StepGraph.size l.graph;
  capacity : vec_capacity l.fn.reached ≤ vec_capacity l.reached;
}

abbrev pub decreases-loop-place : goal.decreases-loop-place
decreases-loop-place g l = length l.seen - l.place
