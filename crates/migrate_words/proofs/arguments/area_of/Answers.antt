use Rattle.std.proofs.Common.{arith}
use Rattle.std.proofs.lemmas.Grind.{common_steps}
use Rattle.clap.proofs.WalkLemmas.{first_value-rows}
use Rattle.migrate_words.proofs.arguments.area_of.Goals as goal

pub returns-in-None : goal.returns-in-None
returns-in-None c = grind (arith, common_steps, first_value-rows)

pub returns-in-Some : goal.returns-in-Some
returns-in-Some c = grind (arith, common_steps, first_value-rows)

pub returns-in-Some-2 : goal.returns-in-Some-2
returns-in-Some-2 c = grind (arith, common_steps, first_value-rows)
