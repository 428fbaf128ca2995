use Rattle.std.proofs.Common.{◌≡◌, ℕ, ◌+◌, ◌<◌, length}
use Rattle.order_core.specs.Rankings.{rank_of}
use Rattle.loop_finder.specs.Times.{waves_of}
use Rattle.loop_finder.proofs.times.rank_waves.Given as goal

abbrev pub invariant-loop-router : goal.invariant-loop-router
invariant-loop-router l = record {
  ranked : (u : ℕ) → u < l.router → waves_of l.times.items u ≡ record { first = rank_of l.ranks u + 1; second = rank_of l.ranks u + 1 };
  many : length l.times.items ≡ length l.ranks;
}
