use Rattle.std.proofs.lemmas.Grind.{common_steps}
use Rattle.std.proofs.Common.{arith}
use Rattle.std.proofs.lemmas.List.{take_all}
use Rattle.migrate_cli.proofs.failures.links_failed.Goals as goal

pub returns : goal.returns
returns g c = grind (arith, common_steps, take_all)
