use Rattle.shown_tables.proofs.InOrder.{one_text, same_text}
use Rattle.shown_tables.proofs.laws.tables_have_one_text.Goals as goal

pub returns : goal.returns
returns g c = record {
  one = one_text g.T.AnyMigration.migration;
  same = same_text g.T.AnyMigration.migration g.S.AnyMigration.migration.old g.S.AnyMigration.migration.new;
}
