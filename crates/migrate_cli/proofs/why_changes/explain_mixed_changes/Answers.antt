use Rattle.std.proofs.Common.{arith}
use Rattle.std.proofs.lemmas.Grind.{common_steps}
use Rattle.migrate_cli.proofs.why_changes.explain_mixed_changes.Goals as goal

pub changes_reasons-requires-clause-sound : goal.changes_reasons-requires-clause-sound
changes_reasons-requires-clause-sound c = grind (arith, common_steps)

pub changes_way-requires-clause-fault : goal.changes_way-requires-clause-fault
changes_way-requires-clause-fault c = grind (arith, common_steps)
