use Rattle.igp_theory.proofs.Switches.{router_switches}
use Rattle.igp_theory.proofs.timetable_laws.routers_switch.Goals as goal

pub returns : goal.returns
returns g c = router_switches g.T.AnyMigration.migration
