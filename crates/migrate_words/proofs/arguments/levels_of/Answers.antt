use Rattle.std.proofs.Common.{arith}
use Rattle.std.proofs.lemmas.Grind.{common_steps}
use Rattle.clap.proofs.WalkLemmas.{first_value-rows}
use Rattle.migrate_words.proofs.arguments.levels_of.Goals as goal

pub returns-in-None : goal.returns-in-None
returns-in-None c = grind (arith, common_steps, first_value-rows)

pub returns-in-Some-levels_named : goal.returns-in-Some-levels_named
returns-in-Some-levels_named c = grind (arith, common_steps, first_value-rows)

pub returns-in-None-levels_named : goal.returns-in-None-levels_named
returns-in-None-levels_named c = grind (arith, common_steps, first_value-rows)
