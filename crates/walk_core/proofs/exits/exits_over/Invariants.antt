use Rattle.walk_core.proofs.ExitLaws.{AreExitsBefore}
use Rattle.walk_core.proofs.exits.exits_over.Given as goal

abbrev pub invariant-loop-outlet : goal.invariant-loop-outlet
invariant-loop-outlet l = AreExitsBefore l.rows l.outlets l.outlet-index l.exits.items
