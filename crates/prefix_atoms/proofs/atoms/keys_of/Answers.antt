use Rattle.std.proofs.Common.{arith}
use Rattle.std.proofs.lemmas.Grind.{common_steps}
use Rattle.std.proofs.lemmas.Result.{IfOk-weaker}
use Rattle.prefix_atoms.proofs.LongestSteps.{keys_kept}
use Rattle.prefix_atoms.proofs.atoms.keys_of.Goals as goal

pub returns-clause-keys : goal.returns-clause-keys
returns-clause-keys c = grind (arith, common_steps, IfOk-weaker, keys_kept)
