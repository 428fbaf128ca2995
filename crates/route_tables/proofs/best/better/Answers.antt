use Rattle.std.proofs.Common.{arith}
use Rattle.std.proofs.lemmas.Grind.{common_steps}
use Rattle.std.proofs.Common.{true, ◌∙◌, subst}
use Rattle.route_tables.specs.declared.best.BestAt.{BestAt}
use Rattle.route_tables.specs.steps.BestSoFar.{IsBestSoFar}
use Rattle.route_tables.proofs.BestSteps.{unreached_more, first_more, better_more}
use Rattle.route_tables.proofs.best.better.Goals as goal

pub returns-in_default : goal.returns-in_default
returns-in_default c = λ reach offers o at total so_far. unreached_more reach offers o c.args.best (total ∙ c.in_default.is) so_far

pub returns-in-Some-best : goal.returns-in-Some-best
returns-in-Some-best c = λ reach offers o at total so_far.
    let next : BestAt = record { cost = c.in-Some.cost; at = c.args.at; alone = true } in
    better_more reach offers o c.in-Some-best.known next c.better_of.result (total ∙ c.in-Some.is) at
    (subst (λ best. IsBestSoFar reach offers best) c.in-Some-best.is so_far) c.better_of.ensures

pub returns-in-None : goal.returns-in-None
returns-in-None c = grind (arith, common_steps, first_more)
