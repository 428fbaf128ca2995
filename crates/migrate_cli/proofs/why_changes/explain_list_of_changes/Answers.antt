use Rattle.std.proofs.lemmas.Grind.{common_steps}
use Rattle.std.proofs.Common.{arith}
use Rattle.migrate_cli.proofs.why_changes.explain_list_of_changes.Goals as goal

pub explain_mixed_changes-requires-clause-few : goal.explain_mixed_changes-requires-clause-few
explain_mixed_changes-requires-clause-few c = grind (arith, common_steps)

pub explain_mixed_changes-requires-clause-waves : goal.explain_mixed_changes-requires-clause-waves
explain_mixed_changes-requires-clause-waves c = grind (arith, common_steps)

pub returns : goal.returns
returns c = grind (arith, common_steps)
