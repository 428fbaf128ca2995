use Rattle.std.proofs.Common.{arith}
use Rattle.std.proofs.lemmas.Grind.{common_steps}
use Rattle.std.proofs.lemmas.Option.{same_Some}
use Rattle.migrate_cli.proofs.judging.refuse_start.Goals as goal

pub returns : goal.returns
returns c = grind (arith, common_steps, same_Some)
