use Rattle.std.proofs.Common.{◌≡◌, ℕ, ◌<◌, false, length, get_or}
use Rattle.precedence_set.specs.steps.Sorting.{left_into}
use Rattle.precedence_set.proofs.sorting.count_pairs.Given as goal

abbrev pub invariant-loop-i : goal.invariant-loop-i
invariant-loop-i l = (v : ℕ) → v < length l.counts → get_or l.counts v 0 ≡ left_into l.pairs (λ (_ : ℕ). false) v l.i
