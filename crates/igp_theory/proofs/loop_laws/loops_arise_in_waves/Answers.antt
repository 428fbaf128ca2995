use Rattle.igp_theory.proofs.LoopsDecide.{stands_round, arises_where}
use Rattle.igp_theory.proofs.WaveLoops.{goes_round, arises_round}
use Rattle.igp_theory.proofs.loop_laws.loops_arise_in_waves.Goals as goal

pub returns : goal.returns
returns g c = record {
  timed = λ time w a ring table is. (
    goes_round g.T.AnyMigration.migration time table w a ring,
    arises_round g.T.AnyMigration.migration time table w a ring is.distinct,
  );
  ranked = λ ranks w a ring one is. (
    stands_round g.T.AnyMigration.migration ranks w a ring one is.tags,
    arises_where g.T.AnyMigration.migration ranks w a ring one is,
  );
}
