use Rattle.std.proofs.Common.{arith}
use Rattle.std.proofs.lemmas.Grind.{common_steps}
use Rattle.applied_changes.proofs.PhaseFacts.{phase_further, phase_here}
use Rattle.applied_changes.proofs.phases.phase_named.Goals as goal

pub returns-then-has_name : goal.returns-then-has_name
returns-then-has_name c = grind (arith, common_steps, phase_here)

pub loop-router-preserved : goal.loop-router-preserved
loop-router-preserved c = grind (arith, common_steps, phase_further)
