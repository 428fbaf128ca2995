use Rattle.precedence_set.specs.steps.Chaining.{parents_in}
use Rattle.precedence_set.proofs.ChainFacts.{AreParents}
use Rattle.precedence_set.proofs.chaining.find_parents.Given as goal

abbrev pub invariant-loop-i : goal.invariant-loop-i
invariant-loop-i l = AreParents l.pairs (parents_in l.layers l.parents 4294967295) l.i
