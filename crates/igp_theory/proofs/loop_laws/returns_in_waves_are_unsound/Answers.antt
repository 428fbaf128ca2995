use Rattle.igp_theory.proofs.WaveLoops.{InWave, return_is_unsound}
use Rattle.igp_theory.proofs.loop_laws.returns_in_waves_are_unsound.Goals as goal

pub returns : goal.returns
returns g c time w a u h hops follows = return_is_unsound g.T.AnyMigration.migration (InWave time w) a u h hops follows
