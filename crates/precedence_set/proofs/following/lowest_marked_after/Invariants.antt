use Rattle.precedence_set.specs.steps.Walking.{walk}
use Rattle.precedence_set.proofs.SuccessorFacts.{IsWalked, left_after}
use Rattle.precedence_set.proofs.following.lowest_marked_after.Given as goal

abbrev pub invariant-loop-at : goal.invariant-loop-at
invariant-loop-at l = IsWalked (walk l.graph.pairs.now l.x l.at) l.marks l.lowest

abbrev pub decreases-loop-at : goal.decreases-loop-at
decreases-loop-at l = left_after l.graph.pairs.now l.at
