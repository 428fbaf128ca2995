use Rattle.walk_core.specs.steps.Kept.{HasRun}
use Rattle.walk_core.proofs.lost.lost_segments.Given as goal

abbrev pub invariant-loop-place : goal.invariant-loop-place
invariant-loop-place l = HasRun l.place l.before l.after l.run.met l.run.lost.items
