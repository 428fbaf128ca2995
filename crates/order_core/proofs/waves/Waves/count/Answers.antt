use Rattle.std.proofs.lemmas.Grind.{common_steps}
use Rattle.std.proofs.Common.{arith}
use Rattle.order_core.proofs.WaveLists.{count_le_length}
use Rattle.order_core.proofs.WaveSteps.{starts_length}
use Rattle.order_core.proofs.waves.Waves.count.Goals as goal

pub overflow_cast-result : goal.overflow_cast-result
overflow_cast-result c = grind (arith, common_steps, count_le_length, starts_length)

pub returns : goal.returns
returns c = grind (arith, common_steps, starts_length)
