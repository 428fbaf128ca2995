use Rattle.plan_theory.proofs.Meaning.{night_plan_means, plan_means}
use Rattle.plan_theory.proofs.laws.plans_mean.Goals as goal

pub returns : goal.returns
returns g c =
    let move = g.T.AnyMigration.migration in
    record {
      night = λ items budget planned can is. night_plan_means items move can budget planned is;
      routers = λ budget planned begins is. plan_means move budget planned begins is;
    }
