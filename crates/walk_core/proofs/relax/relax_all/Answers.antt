use Rattle.std.proofs.Common.{arith}
use Rattle.std.proofs.lemmas.Grind.{common_steps}
use Rattle.walk_core.proofs.RelaxLaws.{relaxes_on, tights_kept, tights_more}
use Rattle.walk_core.proofs.relax.relax_all.Goals as goal

pub loop-u-preserved : goal.loop-u-preserved
loop-u-preserved g c = grind (arith, common_steps, relaxes_on, tights_kept, tights_more)
