use Rattle.std.proofs.Common.{arith}
use Rattle.std.proofs.lemmas.Grind.{common_steps}
use Rattle.clap.proofs.WalkLemmas.{first_value-rows}
use Rattle.migrate_words.proofs.arguments.number_of.Goals as goal

pub returns-in-Budget-None : goal.returns-in-Budget-None
returns-in-Budget-None c = grind (arith, common_steps, first_value-rows)

pub returns-in-Budget-Some : goal.returns-in-Budget-Some
returns-in-Budget-Some c = grind (arith, common_steps, first_value-rows)

pub returns-in-Routers-None : goal.returns-in-Routers-None
returns-in-Routers-None c = grind (arith, common_steps, first_value-rows)

pub returns-in-Routers-Some : goal.returns-in-Routers-Some
returns-in-Routers-Some c = grind (arith, common_steps, first_value-rows)

pub returns-in-WaveSize-None : goal.returns-in-WaveSize-None
returns-in-WaveSize-None c = grind (arith, common_steps, first_value-rows)

pub returns-in-WaveSize-Some : goal.returns-in-WaveSize-Some
returns-in-WaveSize-Some c = grind (arith, common_steps, first_value-rows)
