use Rattle.std.proofs.Common.{arith}
use Rattle.std.proofs.lemmas.Grind.{common_steps}
use Rattle.design_file.proofs.NetworkFaultLaws.{isis_step}
use Rattle.design_file.proofs.network_faults.add_of_isis.Goals as goal

pub loop-router-preserved : goal.loop-router-preserved
loop-router-preserved c = grind (arith, common_steps, isis_step)
