use Rattle.net_model.specs.steps.Doubles.{NoDoubles}
use Rattle.net_model.proofs.naming.first_double.Given as goal

abbrev pub invariant-loop-next : goal.invariant-loop-next
invariant-loop-next l = NoDoubles l.configs l.next
