use Rattle.std.proofs.Common.{arith}
use Rattle.std.proofs.lemmas.Grind.{common_steps}
use Rattle.prefix_atoms.proofs.Repeats.{prefix_missed}
use Rattle.prefix_atoms.proofs.distinct.place_of_prefix.Goals as goal

pub returns-clause-missed : goal.returns-clause-missed
returns-clause-missed c up = grind (arith, common_steps, prefix_missed)
