use Rattle.explained_changes.proofs.OneChangeText.{one_change_reasons_text}
use Rattle.explained_changes.proofs.laws.change_texts_are_one.Goals as goal

pub returns : goal.returns
returns g c = λ ranks text other begins is its. one_change_reasons_text g.T.AnyMigration.migration begins ranks text other is its
