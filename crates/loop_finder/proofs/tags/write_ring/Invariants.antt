use Rattle.std.proofs.Common.{◌≤◌, length}
use Rattle.std.specs.Vec.{vec_capacity}
use Rattle.loop_finder.proofs.TagSteps.{IsPartRing}
use Rattle.loop_finder.specs.steps.ClassSteps.{state_over}
use Rattle.loop_finder.proofs.tags.write_ring.Given as goal

abbrev pub invariant-loop-place : goal.invariant-loop-place
invariant-loop-place g l = record {
  part : IsPartRing (state_over g.O.RouteSource.table g.N.RouteSource.table l.steps) l.routers l.ring.items l.place;
  room : length l.routers ≤ vec_capacity l.ring;
  capacity : vec_capacity l.fn.ring ≤ vec_capacity l.ring;
}
