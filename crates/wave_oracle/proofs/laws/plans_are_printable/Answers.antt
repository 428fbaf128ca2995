use Rattle.wave_oracle.proofs.ReadBack.{plan_printable}
use Rattle.wave_oracle.proofs.laws.plans_are_printable.Goals as goal

pub returns : goal.returns
returns g c = λ items budget. plan_printable items g.T.AnyMigration.migration budget
