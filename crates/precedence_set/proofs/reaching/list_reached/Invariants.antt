use Rattle.std.proofs.Common.{◌-◌, length}
use Rattle.precedence_set.specs.steps.Marks.{marked_list}
use Rattle.precedence_set.proofs.ReachFacts.{IsReaching}
use Rattle.precedence_set.proofs.reaching.list_reached.Given as goal

abbrev pub invariant-loop-k : goal.invariant-loop-k
invariant-loop-k l = IsReaching l.graph.pairs.now (l.u, l.v) (marked_list l.marks l.list l.count) l.k

abbrev pub decreases-loop-k : goal.decreases-loop-k
decreases-loop-k l = length l.list - l.k
