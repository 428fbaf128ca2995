use Rattle.std.proofs.Common.{◌≡◌, ℕ, ◌<◌, length}
use Rattle.igp_theory.specs.Phases.{state_in}
use Rattle.observed_night.specs.ToldStates.{IsToldPhase}
use Rattle.observed_night.proofs.told.told_phases.Given as goal

abbrev pub invariant-loop-router : goal.invariant-loop-router
invariant-loop-router l = record {
  long : length l.phases.items ≡ l.router;
  told : (u : ℕ) → u < l.router → IsToldPhase l.before l.now l.ranks u (state_in l.phases.items u);
}
