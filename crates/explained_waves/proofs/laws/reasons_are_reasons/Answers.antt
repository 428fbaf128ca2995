use Rattle.std.proofs.Common.{◌-◌, arith}
use Rattle.order_core.specs.Rankings.{rank_of}
use Rattle.explained_waves.proofs.Reasons.{forbids_earlier}
use Rattle.explained_waves.proofs.laws.reasons_are_reasons.Goals as goal

pub returns : goal.returns
returns g c = record {
  one = λ ranks v fault reason.
      let before = reason.just_before in
      forbids_earlier g.T.AnyMigration.migration ranks v (rank_of ranks v - 1) fault reason (omega (arith, before));
  all = λ ranks v rank fault. forbids_earlier g.T.AnyMigration.migration ranks v rank fault;
}
