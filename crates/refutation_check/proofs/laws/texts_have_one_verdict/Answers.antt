use Rattle.plan_theory.specs.declared.items.Items.TheVariants.{Changes}
use Rattle.refutation_check.specs.TreeLines.{two_tree_header}
use Rattle.refutation_check.proofs.OneVerdict.{one_headed, one_verdict}
use Rattle.refutation_check.proofs.DoneWords.{one_start}
use Rattle.refutation_check.proofs.RestFacts.{one_rest}
use Rattle.refutation_check.proofs.laws.texts_have_one_verdict.Goals as goal

pub returns : goal.returns
returns g c = record {
  routers = λ text one other network first second. one_verdict g.T.AnyMigration.migration network text one other first second;
  changes = λ text one other begins network first second.
      one_headed Changes g.T.AnyMigration.migration begins network two_tree_header text one other first second;
  rests = λ text one other network first second. one_rest g.T.AnyMigration.migration network text one other first second;
  starts = λ words one other network first second. one_start g.T.AnyMigration.migration.net network words one other first second;
}
