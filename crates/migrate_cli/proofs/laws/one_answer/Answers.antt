use Rattle.migrate_cli.proofs.CallLaws.{one_answer}
use Rattle.migrate_cli.proofs.OutcomeLaws.{one_outcome_law}
use Rattle.migrate_cli.proofs.laws.one_answer.Goals as goal

pub returns : goal.returns
returns c = record { outcome = one_outcome_law; answer = one_answer }
