use Rattle.std.proofs.Common.{◌≡◌, ℕ, ◌<◌, get_or}
use Rattle.precedence_set.proofs.chaining.forget_parents.Given as goal

abbrev pub invariant-loop-parent : goal.invariant-loop-parent
invariant-loop-parent l = (v : ℕ) → v < l.parent-index → get_or l.parents v 0 ≡ 4294967295
