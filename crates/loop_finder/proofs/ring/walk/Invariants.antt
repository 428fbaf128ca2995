use Rattle.std.proofs.Common.{◌+◌, ◌-◌, ◌≤◌, length, vec_len}
use Rattle.std.specs.Vec.{vec_capacity}
use Rattle.order_core.specs.Marks.{marked_count}
use Rattle.loop_finder.proofs.WalkSteps.{IsOnWay}
use Rattle.loop_finder.proofs.ring.walk.Given as goal

abbrev pub invariant-loop-path : goal.invariant-loop-path
invariant-loop-path g l = record {
  way : IsOnWay (g.G.StepGraph.step l.graph) l.initial.live l.live l.start l.path.items;
  room : length l.live ≤ vec_capacity l.path;
  capacity : vec_capacity l.fn.path ≤ vec_capacity l.path;
}

abbrev pub decreases-loop-path : goal.decreases-loop-path
decreases-loop-path g l = marked_count l.live + marked_count l.live + (length l.live - vec_len l.path)
