use Rattle.std.proofs.Common.{ℕ, ◌<◌, ◌≤◌}
use Rattle.order_core.specs.Rankings.{rank_of}
use Rattle.observed_night.proofs.told.has_later_wave.Given as goal

abbrev pub invariant-loop-rank : goal.invariant-loop-rank
invariant-loop-rank l = (v : ℕ) → v < l.rank-index → rank_of l.ranks v ≤ l.own
