-- The timetable of a ranking, router by router.
use Rattle.std.specs.Prelude.{ℕ, List}
use Rattle.igp_theory.specs.Changes.{first, second}
use Rattle.igp_theory.specs.Phases.{State}
use Rattle.igp_theory.specs.Timetables.{Timetable, change_times, router_times}
use Rattle.loop_finder.specs.declared.times.ChangeWaves.{ChangeWaves}
use Rattle.plan_theory.specs.declared.items.Items.{Items}
use Rattle.plan_theory.specs.declared.items.Items.TheVariants.{Routers, Changes}

-- the timetable of a ranking from a start
abbrev pub times_from : Items → State → List ℕ → Timetable
times_from Routers start ranks = router_times start ranks
times_from Changes start ranks = change_times ranks

-- the waves of a router's changes by a timetable
abbrev pub waves_by : Timetable → ℕ → ChangeWaves
waves_by time u = record { first = time (first u); second = time (second u) }
