use Rattle.igp_theory.proofs.LoopsDecide.{sound_switches_old_first, old_first_is_sound}
use Rattle.igp_theory.proofs.timetable_laws.loops_decide.Goals as goal

pub returns : goal.returns
returns g c = record { sound = sound_switches_old_first g.T.AnyMigration.migration; enough = old_first_is_sound g.T.AnyMigration.migration }
