use Rattle.std.proofs.Common.{arith}
use Rattle.std.proofs.lemmas.Grind.{common_steps}
use Rattle.migrate_cli.proofs.FailureFacts.{verdict_of_tables}
use Rattle.migrate_cli.proofs.failures.verdict_over.Goals as goal

pub mixed_verdict-requires : goal.mixed_verdict-requires
mixed_verdict-requires c = grind (arith, common_steps)

pub returns : goal.returns
returns c = grind (arith, common_steps, verdict_of_tables)
