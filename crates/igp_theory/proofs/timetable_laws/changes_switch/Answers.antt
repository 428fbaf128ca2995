use Rattle.igp_theory.proofs.Switches.{change_switches, one_switch}
use Rattle.igp_theory.proofs.timetable_laws.changes_switch.Goals as goal

pub returns : goal.returns
returns g c = record { switch = change_switches g.T.AnyMigration.migration; one = one_switch g.T.AnyMigration.migration }
