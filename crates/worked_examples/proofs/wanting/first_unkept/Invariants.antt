use Rattle.std.proofs.Common.{ℕ, ◌<◌, get_or}
use Rattle.order_core.specs.Rankings.{KeepsPair}
use Rattle.worked_examples.proofs.wanting.first_unkept.Given as goal

abbrev pub invariant-loop-i : goal.invariant-loop-i
invariant-loop-i l = (k : ℕ) → k < l.i → KeepsPair l.ranks (get_or l.wants k (0, 0))
