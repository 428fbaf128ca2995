use Rattle.std.proofs.Common.{ℕ, ◌<◌, get_or, Contains}
use Rattle.order_core.specs.Marks.{IsMarked}
use Rattle.loop_finder.proofs.row.has_marked.Given as goal

abbrev pub invariant-loop-router : goal.invariant-loop-router
invariant-loop-router l = (k : ℕ) → k < l.router-index → IsMarked l.marks (get_or l.routers k 0) → Contains l.others (get_or l.routers k 0)
