use Rattle.std.proofs.Common.{ℕ, ◌<◌, ◌≤◌}
use Rattle.igp_theory.specs.Changes.{second}
use Rattle.loop_finder.specs.Times.{times_in}
use Rattle.loop_finder.proofs.times.last_wave.Given as goal

abbrev pub invariant-loop-waves : goal.invariant-loop-waves
invariant-loop-waves l = record {
  some : 1 ≤ l.last;
  last : (u : ℕ) → u < l.waves-index → times_in l.times.items (second u) ≤ l.last;
}
