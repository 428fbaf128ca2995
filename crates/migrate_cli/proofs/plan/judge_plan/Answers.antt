use Rattle.std.proofs.Common.{arith}
use Rattle.std.proofs.lemmas.Grind.{common_steps}
use Rattle.std.proofs.Common.{◌<◌, length, subst, sym}
use Rattle.migrate_cli.specs.steps.Tables.{NetworkMove}
use Rattle.migrate_cli.proofs.plan.judge_plan.Goals as goal

pub plan_over-requires-clause-some : goal.plan_over-requires-clause-some
plan_over-requires-clause-some c = subst (λ (of : NetworkMove). 0 < length of.net) (sym c.to_isis.ensures) c.requires.some

pub returns : goal.returns
returns c = grind (arith, common_steps)
