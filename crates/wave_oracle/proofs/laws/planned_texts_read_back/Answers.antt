use Rattle.wave_oracle.proofs.ReadBack.{plan_reads_back}
use Rattle.wave_oracle.proofs.laws.planned_texts_read_back.Goals as goal

pub returns : goal.returns
returns g c = λ items budget found can network some. plan_reads_back g.T.AnyMigration.migration budget network some items can found
