use Rattle.loop_finder.specs.steps.Cuts.{AreRowsIn}
use Rattle.loop_finder.proofs.part.rows_in.Given as goal

abbrev pub invariant-loop-router : goal.invariant-loop-router
invariant-loop-router l = AreRowsIn l.layers l.layer l.rows l.router l.own
