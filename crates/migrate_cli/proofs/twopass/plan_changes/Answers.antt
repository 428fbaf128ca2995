use Rattle.std.proofs.lemmas.Grind.{common_steps}
use Rattle.std.proofs.Common.{arith}
use Rattle.migrate_cli.proofs.TableFacts.{changes_planned_of}
use Rattle.migrate_cli.proofs.twopass.plan_changes.Goals as goal

pub plan_two-requires-clause-some : goal.plan_two-requires-clause-some
plan_two-requires-clause-some c = grind (arith, common_steps)

pub plan_two-requires-clause-few : goal.plan_two-requires-clause-few
plan_two-requires-clause-few c = grind (arith, common_steps)

pub returns-clause-planned : goal.returns-clause-planned
returns-clause-planned c = grind (arith, common_steps, changes_planned_of)
