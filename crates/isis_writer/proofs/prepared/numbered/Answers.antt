use Rattle.std.proofs.Common.{arith}
use Rattle.std.proofs.lemmas.Grind.{common_steps}
use Rattle.isis_writer.proofs.NumberLaws.{number_further, number_here}
use Rattle.isis_writer.proofs.prepared.numbered.Goals as goal

pub returns-then-has_name-clause-number : goal.returns-then-has_name-clause-number
returns-then-has_name-clause-number c = grind (arith, common_steps, number_here)

pub loop-router-preserved : goal.loop-router-preserved
loop-router-preserved c = grind (arith, common_steps, number_further)
