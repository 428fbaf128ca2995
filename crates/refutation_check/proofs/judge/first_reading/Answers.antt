use Rattle.std.proofs.Common.{arith}
use Rattle.std.proofs.lemmas.Grind.{common_steps}
use Rattle.refutation_check.proofs.Heads.{base_below}
use Rattle.refutation_check.proofs.judge.first_reading.Goals as goal

pub walk_past-requires-clause-below : goal.walk_past-requires-clause-below
walk_past-requires-clause-below c = grind (arith, common_steps, base_below)
