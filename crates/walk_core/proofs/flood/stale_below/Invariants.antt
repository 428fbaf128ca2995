use Rattle.std.proofs.Common.{◌≡◌, ◌+◌, ◌≤◌, ◌<◌, ℕ, true, false, get_or}
use Rattle.walk_core.proofs.flood.stale_below.Given as goal

abbrev pub invariant-loop-passed : goal.invariant-loop-passed
invariant-loop-passed l = (v : ℕ) → l.below ≤ v + l.passed → v < l.below → get_or l.stale v true ≡ false
