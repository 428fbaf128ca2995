use Rattle.std.proofs.Common.{◌≡◌, ℕ, ◌<◌, get_or}
use Rattle.igp_theory.specs.declared.phase.Phase.TheVariants.{Old}
use Rattle.loop_finder.proofs.retag.is_all_old.Given as goal

abbrev pub invariant-loop-phase : goal.invariant-loop-phase
invariant-loop-phase l = (k : ℕ) → k < l.phase-index → get_or l.phases k Old ≡ Old
