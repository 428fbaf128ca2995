use Rattle.std.proofs.Common.{arith}
use Rattle.std.proofs.lemmas.Grind.{common_steps}
use Rattle.std.proofs.lemmas.List.{append-nil}
use Rattle.refutation_check.proofs.text.with_made.Goals as goal

pub returns-in-Old : goal.returns-in-Old
returns-in-Old c = grind (arith, common_steps, append-nil)
