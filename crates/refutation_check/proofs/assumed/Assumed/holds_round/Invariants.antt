use Rattle.std.proofs.Common.{ℕ, ◌<◌, Contains, get_or}
use Rattle.refutation_check.specs.steps.Rings.{next_at}
use Rattle.refutation_check.proofs.assumed.Assumed.holds_round.Given as goal

abbrev pub invariant-loop-place : goal.invariant-loop-place
invariant-loop-place l = (k : ℕ) (d : ℕ) → k < l.place → Contains l.self.pairs (get_or l.cycle k d, next_at l.cycle k d)
