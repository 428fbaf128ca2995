use Rattle.precedence_set.specs.steps.Sorting.{AreFree}
use Rattle.precedence_set.proofs.sorting.list_free.Given as goal

abbrev pub invariant-loop-router : goal.invariant-loop-router
invariant-loop-router l = AreFree l.counts l.order l.count l.router
