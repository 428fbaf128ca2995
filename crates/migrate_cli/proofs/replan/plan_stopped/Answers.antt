use Rattle.std.proofs.lemmas.Grind.{common_steps}
use Rattle.std.proofs.Common.{arith}
use Rattle.migrate_cli.proofs.ReplanLaws.{rest_planned_of}
use Rattle.migrate_cli.proofs.replan.plan_stopped.Goals as goal

pub plan_rest-requires-clause-some : goal.plan_rest-requires-clause-some
plan_rest-requires-clause-some c = grind (arith, common_steps)

pub plan_rest-requires-clause-few : goal.plan_rest-requires-clause-few
plan_rest-requires-clause-few c = grind (arith, common_steps)

pub plan_rest-requires-clause-each : goal.plan_rest-requires-clause-each
plan_rest-requires-clause-each c = grind (arith, common_steps)

pub returns-clause-planned : goal.returns-clause-planned
returns-clause-planned c = grind (arith, common_steps, rest_planned_of)
