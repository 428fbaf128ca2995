use Rattle.std.proofs.Common.{length}
use Rattle.precedence_set.specs.steps.Sorting.{queue, stop}
use Rattle.precedence_set.proofs.SuccessorFacts.{left_after}
use Rattle.precedence_set.proofs.ListFacts.{IsFreeing}
use Rattle.precedence_set.proofs.sorting.list_after.Given as goal

abbrev pub invariant-loop-at : goal.invariant-loop-at
invariant-loop-at l = IsFreeing (length l.order) l.graph.pairs.now (queue l.counts l.order l.count) (stop l.k l.at)

abbrev pub decreases-loop-at : goal.decreases-loop-at
decreases-loop-at l = left_after l.graph.pairs.now l.at
