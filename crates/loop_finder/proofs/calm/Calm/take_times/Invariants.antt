use Rattle.std.proofs.Common.{◌≡◌, ℕ, ◌<◌, length}
use Rattle.loop_finder.specs.Calm.{AreCalm}
use Rattle.loop_finder.specs.Times.{times_in, waves_of}
use Rattle.loop_finder.proofs.calm.Calm.take_times.Given as goal

abbrev pub invariant-loop-router : goal.invariant-loop-router
invariant-loop-router l = record {
  many : length l.self.times.items ≡ length l.times;
  taken : (u : ℕ) → u < l.router → waves_of l.self.times.items u ≡ waves_of l.times u;
  calm : AreCalm l.pieces.all.items (times_in l.self.times.items) l.self.before.items;
}
