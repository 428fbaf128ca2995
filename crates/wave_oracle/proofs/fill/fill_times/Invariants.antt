use Rattle.std.proofs.Common.{◌≡◌, ℕ, ◌<◌, length, vec_len}
use Rattle.igp_theory.specs.Phases.{state_in}
use Rattle.loop_finder.specs.Times.{waves_of}
use Rattle.wave_oracle.specs.steps.RankedTimes.{times_from, waves_by}
use Rattle.wave_oracle.proofs.fill.fill_times.Given as goal

abbrev pub invariant-loop-router : goal.invariant-loop-router
invariant-loop-router l = record {
  many : vec_len l.times ≡ length l.start;
  filled : (u : ℕ) → u < l.router → waves_of l.times.items u ≡ waves_by (times_from l.items (state_in l.start) l.ranks) u;
}
