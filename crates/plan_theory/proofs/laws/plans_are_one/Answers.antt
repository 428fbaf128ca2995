use Rattle.plan_theory.proofs.OnePlan.{one_night_plan, one_plan}
use Rattle.plan_theory.proofs.laws.plans_are_one.Goals as goal

pub returns : goal.returns
returns g c =
    let move = g.T.AnyMigration.migration in
    record {
      night = λ items budget planned other can is too. one_night_plan items move can budget planned other is too;
      routers = λ budget planned other is too. one_plan move budget planned other is too;
    }
