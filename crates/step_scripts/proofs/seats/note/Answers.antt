use Rattle.std.proofs.Common.{arith}
use Rattle.std.proofs.lemmas.Grind.{common_steps}
use Rattle.step_scripts.proofs.WaveLists.{noted_more}
use Rattle.step_scripts.proofs.seats.note.Goals as goal

pub loop-router-preserved : goal.loop-router-preserved
loop-router-preserved c = grind (arith, common_steps, noted_more)
