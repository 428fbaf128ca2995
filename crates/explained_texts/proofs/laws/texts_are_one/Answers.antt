use Rattle.explained_texts.proofs.OneText.{one_reasons_text, one_way_text}
use Rattle.explained_texts.proofs.WayFaults.{order_stands, times_stand}
use Rattle.explained_texts.proofs.laws.texts_are_one.Goals as goal

pub returns : goal.returns
returns g c = record {
  reasons = one_reasons_text g.T.AnyMigration.migration;
  way = λ span fault text other network one_old one_new is its.
      one_way_text g.T.AnyMigration.migration network one_old one_new span is its;
  of_order = order_stands g.T.AnyMigration.migration;
  of_waves = times_stand g.T.AnyMigration.migration;
}
