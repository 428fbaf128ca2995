use Rattle.std.proofs.Common.{arith}
use Rattle.std.proofs.lemmas.Grind.{common_steps}
use Rattle.igp_theory.proofs.WaveFaultLaws.{fault_over_unique, fault_of_one, fault_in_one}
use Rattle.igp_theory.proofs.wave_fault_laws.faults_over_states_are_unique.Goals as goal

pub returns : goal.returns
returns g c = grind (arith, common_steps, fault_in_one, fault_of_one, fault_over_unique)
