use Rattle.std.proofs.Common.{arith}
use Rattle.std.proofs.lemmas.Grind.{common_steps}
use Rattle.design_file.proofs.NetworkLookups.{found_here, passed_here}
use Rattle.design_file.proofs.network_faults.config_named.Goals as goal

pub returns-then-has_name : goal.returns-then-has_name
returns-then-has_name c = grind (arith, common_steps, found_here)

pub loop-router-preserved : goal.loop-router-preserved
loop-router-preserved c = grind (arith, common_steps, passed_here)
