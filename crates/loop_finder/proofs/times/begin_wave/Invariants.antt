use Rattle.std.proofs.Common.{◌≡◌, ℕ, length, ◌<◌}
use Rattle.igp_theory.specs.Timetables.{state_before}
use Rattle.igp_theory.specs.Phases.{state_in}
use Rattle.loop_finder.specs.Times.{times_in}
use Rattle.loop_finder.proofs.times.begin_wave.Given as goal

abbrev pub invariant-loop-router : goal.invariant-loop-router
invariant-loop-router l = record {
  phases : (u : ℕ) → u < l.router → state_in l.phases.items u ≡ state_before (times_in l.times.items) l.wave u;
  many : length l.phases.items ≡ length l.times.items;
}
