use Rattle.explained_waves.proofs.Reasons.{fault_reason, may_be_earlier, forbids_earlier}
use Rattle.explained_waves.proofs.laws.earlier_waves_are_no_safer.Goals as goal

pub returns : goal.returns
returns g c = record {
  reason = λ ranks v w fault sound is. fault_reason g.T.AnyMigration.migration ranks v sound w fault is;
  free = λ ranks v sound none. may_be_earlier g.T.AnyMigration.migration ranks v sound none;
  earlier = λ ranks v rank sound late lower there. late (may_be_earlier g.T.AnyMigration.migration ranks v sound
      (λ fault reason. forbids_earlier g.T.AnyMigration.migration ranks v rank fault reason lower there));
}
