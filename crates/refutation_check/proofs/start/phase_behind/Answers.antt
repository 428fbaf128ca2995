use Rattle.std.proofs.lemmas.Grind.{common_steps}
use Rattle.std.proofs.Common.{arith}
use Rattle.refutation_check.proofs.start.phase_behind.Goals as goal

pub returns-then-item-eq0 : goal.returns-then-item-eq0
returns-then-item-eq0 c = grind (arith, common_steps)

pub returns-else-item-eq0 : goal.returns-else-item-eq0
returns-else-item-eq0 c = grind (arith, common_steps)
