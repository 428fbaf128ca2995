use Rattle.precedence_set.specs.steps.Marks.{marked_list}
use Rattle.precedence_set.specs.steps.Walking.{walk}
use Rattle.precedence_set.proofs.ReachFacts.{IsReachingOn}
use Rattle.precedence_set.proofs.SuccessorFacts.{left_after}
use Rattle.precedence_set.proofs.reaching.list_after.Given as goal

abbrev pub invariant-loop-at : goal.invariant-loop-at
invariant-loop-at l = IsReachingOn (walk l.graph.pairs.now l.x l.at) (marked_list l.fn.marks l.fn.list l.fn.queue.count) (marked_list l.marks l.list l.count)

abbrev pub decreases-loop-at : goal.decreases-loop-at
decreases-loop-at l = left_after l.graph.pairs.now l.at
