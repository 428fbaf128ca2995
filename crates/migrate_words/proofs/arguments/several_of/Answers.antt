use Rattle.std.proofs.Common.{arith}
use Rattle.std.proofs.lemmas.Grind.{common_steps}
use Rattle.clap.proofs.WalkLemmas.{raw_values-rows}
use Rattle.migrate_words.proofs.RowFacts.{some_not_none}
use Rattle.migrate_words.proofs.arguments.several_of.Goals as goal

pub returns-in_default : goal.returns-in_default
returns-in_default c = grind (arith, common_steps, raw_values-rows, some_not_none)

pub returns-in-Ok : goal.returns-in-Ok
returns-in-Ok c = grind (arith, common_steps, raw_values-rows)
