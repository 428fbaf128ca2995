use Rattle.std.proofs.Common.{ℕ, ◌<◌, get_or}
use Rattle.loop_finder.specs.steps.Returns.{HasLayer}
use Rattle.loop_finder.proofs.level_marks.have_layers.Given as goal

abbrev pub invariant-loop-router : goal.invariant-loop-router
invariant-loop-router l = (k : ℕ) → k < l.router-index → HasLayer l.layers (get_or l.routers k 0)
