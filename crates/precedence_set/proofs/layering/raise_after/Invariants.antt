use Rattle.precedence_set.specs.steps.Walking.{walk}
use Rattle.precedence_set.proofs.SuccessorFacts.{left_after}
use Rattle.precedence_set.proofs.RaiseFacts.{IsRaising}
use Rattle.precedence_set.proofs.layering.raise_after.Given as goal

abbrev pub invariant-loop-at : goal.invariant-loop-at
invariant-loop-at l = IsRaising (walk l.graph.pairs.now l.u l.at) l.fn.layers l.layers l.above

abbrev pub decreases-loop-at : goal.decreases-loop-at
decreases-loop-at l = left_after l.graph.pairs.now l.at
