use Rattle.std.proofs.Common.{ℕ, ◌<◌, ◌≤◌, get_or}
use Rattle.igp_theory.specs.Changes.{first, second}
use Rattle.loop_finder.specs.Times.{times_in}
use Rattle.loop_finder.proofs.calm.next_wave.Given as goal

abbrev pub invariant-loop-router : goal.invariant-loop-router
invariant-loop-router l = record {
  no_sooner : l.from ≤ l.next;
  first : (k : ℕ) → k < l.router-index → l.from ≤ times_in l.times (first (get_or l.steppers k 0)) →
      l.next ≤ times_in l.times (first (get_or l.steppers k 0));
  second : (k : ℕ) → k < l.router-index → l.from ≤ times_in l.times (second (get_or l.steppers k 0)) →
      l.next ≤ times_in l.times (second (get_or l.steppers k 0));
}
