use Rattle.std.proofs.Common.{refl, arith}
use Rattle.igp_theory.proofs.ListedStates.{is_all_old}
use Rattle.loop_finder.proofs.retag.is_all_old.Goals as goal

pub returns : goal.returns
returns c = is_all_old c.args.phases.now _ refl (λ k within. c.loop-phase.invariant k (omega (arith, within, c.loop-phase-test.false)))
