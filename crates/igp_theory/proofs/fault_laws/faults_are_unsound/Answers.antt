use Rattle.std.proofs.Common.{arith}
use Rattle.std.proofs.lemmas.Grind.{common_steps}
use Rattle.igp_theory.proofs.FaultLaws.{fault_is_unsound, faulty_not_sound, faulty_not_seamless}
use Rattle.igp_theory.proofs.fault_laws.faults_are_unsound.Goals as goal

pub returns : goal.returns
returns g c = grind (arith, common_steps, fault_is_unsound, faulty_not_seamless, faulty_not_sound)
