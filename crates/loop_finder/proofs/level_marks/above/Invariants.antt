use Rattle.std.proofs.Common.{ℕ, ◌<◌, get_or}
use Rattle.loop_finder.specs.steps.Returns.{layer_in}
use Rattle.loop_finder.proofs.level_marks.above.Given as goal

abbrev pub invariant-loop-router : goal.invariant-loop-router
invariant-loop-router l = (k : ℕ) → k < l.router-index → layer_in l.layers (get_or l.routers k 0) < l.above
