use Rattle.std.proofs.Common.{arith}
use Rattle.std.proofs.lemmas.Grind.{common_steps}
use Rattle.igp_theory.proofs.FaultLaws.{fault_unique, first_fault_unique}
use Rattle.igp_theory.proofs.fault_laws.faults_are_unique.Goals as goal

pub returns : goal.returns
returns g c = grind (arith, common_steps, fault_unique, first_fault_unique)
