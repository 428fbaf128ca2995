use Rattle.std.proofs.lemmas.Grind.{common_steps}
use Rattle.std.proofs.Common.{arith}
use Rattle.applied_changes.proofs.PhaseFacts.{made_more}
use Rattle.applied_changes.proofs.phases.made_on.Goals as goal

pub loop-next-preserved : goal.loop-next-preserved
loop-next-preserved c = grind (arith, common_steps, made_more)
