use Rattle.std.proofs.Common.{arith}
use Rattle.std.proofs.lemmas.Grind.{common_steps}
use Rattle.design_file.proofs.FitLaws.{settled_step}
use Rattle.design_file.proofs.settling.settled_routers.Goals as goal

pub loop-router-preserved : goal.loop-router-preserved
loop-router-preserved c = grind (arith, common_steps, settled_step)
