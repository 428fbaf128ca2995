use Rattle.loop_finder.specs.steps.Ends.{EndStep}
use Rattle.loop_finder.proofs.Levels.{AreLevelled}
use Rattle.loop_finder.proofs.level_marks.mark_level.Given as goal

abbrev pub invariant-loop-router : goal.invariant-loop-router
invariant-loop-router l = AreLevelled (EndStep l.lists) l.layers l.initial.marks l.marks l.router
