use Rattle.std.proofs.Common.{length}
use Rattle.precedence_set.specs.steps.Chaining.{trace}
use Rattle.precedence_set.proofs.ChainFacts.{IsTraced}
use Rattle.precedence_set.proofs.chaining.trace_chain.Given as goal

abbrev pub invariant-loop-k : goal.invariant-loop-k
invariant-loop-k l = IsTraced (length l.layers) l.pairs (trace l.layers l.out l.count) l.k

abbrev pub decreases-loop-k : goal.decreases-loop-k
decreases-loop-k l = l.k
