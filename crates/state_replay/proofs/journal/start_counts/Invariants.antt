use Rattle.std.proofs.Common.{◌≡◌, ℕ, ◌<◌, length, get_or}
use Rattle.state_replay.proofs.journal.start_counts.Given as goal

abbrev pub invariant-loop-router : goal.invariant-loop-router
invariant-loop-router l = record {
  each : length l.done ≡ length l.net;
  none : (u : ℕ) → u < l.router → get_or l.done u 0 ≡ 0;
}
