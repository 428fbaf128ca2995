use Rattle.std.proofs.Common.{arith}
use Rattle.std.proofs.lemmas.Grind.{common_steps}
use Rattle.std.proofs.Common.{◌∙◌, sym}
use Rattle.clap.specs.Words.{found_of}
use Rattle.clap.proofs.WalkLemmas.{first_value-rows}
use Rattle.migrate_words.proofs.RowFacts.{some_not_none}
use Rattle.migrate_words.proofs.arguments.text_of.Goals as goal

pub returns-in-Some : goal.returns-in-Some
returns-in-Some c = sym (first_value-rows (found_of c.args.given.now) c.args.argument.now) ∙ sym c.in-Some.ensures

pub returns-in-None : goal.returns-in-None
returns-in-None c = grind (arith, common_steps, first_value-rows, some_not_none)
