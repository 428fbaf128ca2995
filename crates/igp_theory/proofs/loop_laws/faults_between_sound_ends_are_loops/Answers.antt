use Rattle.std.proofs.Common.{arith}
use Rattle.std.proofs.lemmas.Grind.{common_steps}
use Rattle.igp_theory.proofs.LoopLaws.{fault_between_ends}
use Rattle.igp_theory.proofs.LoopsDecide.{times_fault_between_ends}
use Rattle.igp_theory.proofs.loop_laws.faults_between_sound_ends_are_loops.Goals as goal

pub returns : goal.returns
returns g c = grind (arith, common_steps, fault_between_ends, times_fault_between_ends)
