use Rattle.std.proofs.Common.{arith}
use Rattle.std.proofs.lemmas.Grind.{common_steps}
use Rattle.migrate_cli.proofs.PrepareFacts.{ends_whole, whole_by_last}
use Rattle.migrate_cli.proofs.prepare.is_of_whole_lines.Goals as goal

pub returns-in-Some : goal.returns-in-Some
returns-in-Some c = grind (arith, common_steps, ends_whole, whole_by_last)
