use Rattle.migrate_cli.proofs.FailureFacts.{yes_has_line}
use Rattle.migrate_cli.proofs.failures.failures_behind.Goals as goal

pub checked_line-requires : goal.checked_line-requires
checked_line-requires c = yes_has_line c.args.net.now c.args.checked.now c.requires.yes
