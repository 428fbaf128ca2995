use Rattle.std.proofs.Common.{arith}
use Rattle.std.proofs.lemmas.Grind.{common_steps}
use Rattle.igp_theory.proofs.WaveFaultLaws.{times_fault_unique, times_fault_unsound}
use Rattle.igp_theory.proofs.wave_fault_laws.times_faults_are_unique.Goals as goal

pub returns : goal.returns
returns g c = grind (arith, common_steps, times_fault_unique, times_fault_unsound)
