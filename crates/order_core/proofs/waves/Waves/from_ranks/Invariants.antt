use Rattle.std.proofs.Common.{◌≡◌, ◌+◌}
use Rattle.order_core.specs.HeldWaves.{starts_of}
use Rattle.order_core.specs.Rankings.{waves_before}
use Rattle.order_core.proofs.waves.Waves.from_ranks.Given as goal

abbrev pub invariant-loop-wave : goal.invariant-loop-wave
invariant-loop-wave l = record {
  flat : l.flat.items ≡ waves_before l.ranks l.wave;
  starts : l.starts.items ≡ starts_of l.ranks (l.wave + 1);
}
