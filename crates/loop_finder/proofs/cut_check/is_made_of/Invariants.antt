use Rattle.std.proofs.Common.{ℕ, ◌<◌}
use Rattle.loop_finder.specs.steps.Cuts.{IsCutAt}
use Rattle.loop_finder.proofs.cut_check.is_made_of.Given as goal

abbrev pub invariant-loop-router : goal.invariant-loop-router
invariant-loop-router l = (u : ℕ) → u < l.router → IsCutAt l.cut.layers.now l.cut.owners.now.items l.cut.places.now.items l.cut.pieces.now.items l.part u
