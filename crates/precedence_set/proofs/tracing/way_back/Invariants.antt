use Rattle.std.proofs.Common.{◌+◌, ◌-◌, ◌*◌, length}
use Rattle.order_core.specs.Marks.{marked_count}
use Rattle.precedence_set.specs.steps.Marks.{marked_list}
use Rattle.precedence_set.proofs.TraceFacts.{IsWalking}
use Rattle.precedence_set.proofs.tracing.way_back.Given as goal

abbrev pub invariant-loop-count : goal.invariant-loop-count
invariant-loop-count l = IsWalking (length l.fn.path) l.graph.pairs.now (l.u, l.v) (marked_list l.marks l.path l.count)

abbrev pub decreases-loop-count : goal.decreases-loop-count
decreases-loop-count l = 2 * marked_count l.marks + (length l.path - l.count)
