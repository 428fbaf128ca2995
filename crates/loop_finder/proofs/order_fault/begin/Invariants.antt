use Rattle.std.proofs.Common.{◌≡◌, ℕ, ◌<◌, length}
use Rattle.igp_theory.specs.declared.phase.Phase.TheVariants.{Old}
use Rattle.igp_theory.specs.Phases.{state_in}
use Rattle.loop_finder.proofs.order_fault.begin.Given as goal

abbrev pub invariant-loop-router : goal.invariant-loop-router
invariant-loop-router l = record {
  phases : (u : ℕ) → u < l.router → state_in l.phases.items u ≡ Old;
  many : length l.phases.items ≡ length l.fn.phases.items;
}
