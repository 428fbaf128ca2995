use Rattle.std.proofs.Common.{ℕ, ◌<◌}
use Rattle.loop_finder.specs.steps.ClassSteps.{Moves, state_over}
use Rattle.loop_finder.proofs.class_steps.ClassSteps.first_stuck.Given as goal

abbrev pub invariant-loop-router : goal.invariant-loop-router
invariant-loop-router g l = (v : ℕ) → v < l.router → Moves (state_over g.O.RouteSource.table g.N.RouteSource.table l.self) v
