use Rattle.loop_finder.specs.steps.Parts.{AreAllBut, IsBareIn}
use Rattle.loop_finder.proofs.part.steppers_of.Given as goal

abbrev pub invariant-loop-router : goal.invariant-loop-router
invariant-loop-router l = AreAllBut (IsBareIn l.rows) l.router l.steppers.items
