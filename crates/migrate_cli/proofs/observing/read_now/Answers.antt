use Rattle.std.proofs.Common.{arith}
use Rattle.std.proofs.lemmas.Grind.{common_steps}
use Rattle.migrate_cli.proofs.NightReading.{refused_texts, refused_weaker, unread_refusal}
use Rattle.migrate_cli.proofs.observing.read_now.Goals as goal

pub returns-in-Ok-clause-refused : goal.returns-in-Ok-clause-refused
returns-in-Ok-clause-refused c = grind (arith, common_steps, refused_texts, refused_weaker)

pub returns-in_ok-refuse_unread-in-Err-clause-refused : goal.returns-in_ok-refuse_unread-in-Err-clause-refused
returns-in_ok-refuse_unread-in-Err-clause-refused c = grind (arith, common_steps, unread_refusal)
