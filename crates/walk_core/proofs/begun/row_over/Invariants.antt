use Rattle.walk_core.specs.steps.Begun.{AreNearOver}
use Rattle.walk_core.proofs.begun.row_over.Given as goal

abbrev pub invariant-loop-v : goal.invariant-loop-v
invariant-loop-v l = AreNearOver l.far l.cost l.count l.v l.row.items
