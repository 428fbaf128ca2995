-- A night: what is mixed, what is ranked, and the phase from which each router starts.
use Rattle.std.specs.Prelude.{◌≡◌, ℕ, ◌≤◌, List, length, refl}
use Rattle.igp_theory.specs.Migrations.{Migration, started}
use Rattle.igp_theory.specs.Phases.{State, all_old, state_in}
use Rattle.igp_theory.specs.Timetables.{Timetable}
use Rattle.igp_theory.specs.declared.phase.Phase.{Phase}
use Rattle.order_core.specs.Pairs.{Pair}
use Rattle.order_core.specs.declared.turn.Turn.{Turn}
use Rattle.rib_mix.specs.Mixture.{Mixture, migration_of}
use Rattle.loop_finder.specs.Faults.{Finding}
use Rattle.loop_finder.specs.Mixes.{Listing}
use Rattle.plan_theory.specs.Ranked.{CanRank, base_of, ranked, size_of}
use Rattle.plan_theory.specs.declared.items.Items.{Items}
use Rattle.plan_theory.specs.declared.items.Items.TheVariants.{Routers, Changes}

-- what contracts see of who finds and tells the faults of rankings: what is mixed, what is ranked, the phase from which each
-- router starts, the ring of the latest loop, and its turns by the numbers that they name
pub record Night (O N : Type 0) : Type 0 where
  pub mixture : Mixture O N
  pub items : Items
  pub start : List Phase
  pub ring : List Turn
  pub numbered : List Turn

-- the state from which a night goes on; single changes are ranked from that in which every router is Old alone
abbrev pub night_start : Items → List Phase → State
night_start Routers start = state_in start
night_start Changes start = all_old

-- the migration of a night
abbrev pub night_move : {O N : Type 0} → Listing O → Listing N → Night O N → Migration
night_move old new night = started (night_start night.items night.start) (migration_of old new night.mixture)

-- the timetable that a ranking makes there
abbrev pub night_times : {O N : Type 0} → Listing O → Listing N → Night O N → List ℕ → Timetable
night_times old new night = (ranked night.items (night_move old new night)).times

-- what its finder keeps: the finder of faults, what is mixed and ranked, the start, the base, and how much room there is for waves
-- and for turns
pub record NightParts (O N : Type 0) : Type 0 where
  pub finding : Finding O N
  pub mixture : Mixture O N
  pub items : Items
  pub start : List Phase
  pub base : List Pair
  pub times : ℕ
  pub room : ℕ

-- the finder searches what is mixed from the start of the night, and there is room for each router and for each turn of a ring
pub record IsNightFinder {O N : Type 0} (p : NightParts O N) : Type 0 where
  pub same : p.finding.mixture ≡ p.mixture
  pub begins : state_in p.finding.start ≡ night_start p.items p.start
  pub each : length p.start ≡ length p.mixture.net
  pub few : size_of p.items (length p.mixture.net) ≤ 1000
  pub base_is : p.base ≡ base_of p.items (length p.mixture.net)
  pub times_many : p.times ≡ length p.mixture.net
  pub turns_fit : length p.mixture.net ≤ p.room

-- there what is ranked can be: single changes from the state in which every router is Old
pub can_from : {O N : Type 0} (old : Listing O) (new : Listing N) (items : Items) (start : List Phase) (m : Mixture O N) →
    CanRank items (started (night_start items start) (migration_of old new m))
can_from old new Routers start m = tt
can_from old new Changes start m = λ u. refl

pub night_can : {O N : Type 0} (old : Listing O) (new : Listing N) (night : Night O N) → CanRank night.items (night_move old new night)
night_can old new night = can_from old new night.items night.start night.mixture
