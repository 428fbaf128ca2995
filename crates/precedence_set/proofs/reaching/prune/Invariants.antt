use Rattle.std.proofs.Common.{ℕ}
use Rattle.order_core.specs.Marks.{IsMarked}
use Rattle.order_core.specs.Pairs.{Reaches}
use Rattle.precedence_set.proofs.reaching.prune.Given as goal

abbrev pub invariant-loop-j : goal.invariant-loop-j
invariant-loop-j l = (r : ℕ) → Reaches l.graph.pairs.now r l.u → IsMarked l.marks r
