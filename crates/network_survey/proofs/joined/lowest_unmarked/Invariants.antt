use Rattle.std.proofs.Common.{ℕ, ◌<◌}
use Rattle.order_core.specs.Marks.{IsMarked}
use Rattle.network_survey.proofs.joined.lowest_unmarked.Given as goal

abbrev pub invariant-loop-router : goal.invariant-loop-router
invariant-loop-router l = (v : ℕ) → v < l.router → IsMarked l.marks v
