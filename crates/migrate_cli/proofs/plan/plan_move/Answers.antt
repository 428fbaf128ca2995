use Rattle.std.proofs.lemmas.Grind.{common_steps}
use Rattle.std.proofs.Common.{arith}
use Rattle.migrate_cli.proofs.TableFacts.{planned_of}
use Rattle.migrate_cli.proofs.plan.plan_move.Goals as goal

pub plan_mixed-planned-requires-clause-some : goal.plan_mixed-planned-requires-clause-some
plan_mixed-planned-requires-clause-some c = grind (arith, common_steps)

pub plan_mixed-planned-requires-clause-few : goal.plan_mixed-planned-requires-clause-few
plan_mixed-planned-requires-clause-few c = grind (arith, common_steps)

pub returns-clause-planned : goal.returns-clause-planned
returns-clause-planned c = grind (arith, common_steps, planned_of)
