use Rattle.std.proofs.Common.{ℕ, ◌<◌, ◌≤◌, length}
use Rattle.std.specs.Vec.{vec_capacity}
use Rattle.order_core.specs.Marks.{IsMarked}
use Rattle.loop_finder.specs.steps.Live.{AreBounded}
use Rattle.loop_finder.proofs.ring.find_ring.Given as goal

abbrev pub invariant-loop-start : goal.invariant-loop-start
invariant-loop-start g l = record {
  bounded : AreBounded (g.G.StepGraph.step l.graph) l.live;
  dead : (r : ℕ) → r < l.start → ¬ IsMarked l.live r;
  room : length l.live ≤ vec_capacity l.path;
  capacity : vec_capacity l.fn.path ≤ vec_capacity l.path;
}
