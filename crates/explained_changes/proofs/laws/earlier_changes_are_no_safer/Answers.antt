use Rattle.explained_changes.proofs.ChangeReasons.{fault_of_loop, fault_reason, forbids_earlier, forbids_one}
use Rattle.explained_changes.proofs.laws.earlier_changes_are_no_safer.Goals as goal

pub returns : goal.returns
returns g c = record {
  loops = λ ranks i w fault begins sound behind is. fault_of_loop g.T.AnyMigration.migration begins ranks i sound behind w fault is;
  reason = λ ranks i w a turns begins sound behind named is.
      fault_reason g.T.AnyMigration.migration begins ranks i sound behind w a turns named is;
  one = λ ranks i a turns begins reason. forbids_one g.T.AnyMigration.migration begins ranks i a turns reason;
  all = λ ranks i a rank turns begins sound behind reason lower.
      forbids_earlier g.T.AnyMigration.migration begins ranks i sound behind a rank turns reason lower;
}
