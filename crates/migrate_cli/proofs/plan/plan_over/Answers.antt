use Rattle.migrate_cli.specs.PlanDecision.IsPlanOver.{plans}
use Rattle.migrate_cli.proofs.plan.plan_over.Goals as goal

pub returns : goal.returns
returns c = plans c.in_ok-planned.planned c.requires.some c.in_ok-planned.ensures.network c.in_ok-planned.ensures.planned
