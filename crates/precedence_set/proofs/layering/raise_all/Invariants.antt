use Rattle.precedence_set.proofs.RaiseFacts.{AreRaised}
use Rattle.precedence_set.proofs.layering.raise_all.Given as goal

abbrev pub invariant-loop-k : goal.invariant-loop-k
invariant-loop-k l = AreRaised l.graph.pairs.now l.order l.layers l.k
