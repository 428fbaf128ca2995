-- A night that goes on from a start: routers are ranked, and each makes in its wave the changes that it hasn't made.
use Rattle.std.specs.Prelude.{◌≡◌, ℕ, List}
use Rattle.igp_theory.specs.Migrations.{Migration, started}
use Rattle.igp_theory.specs.Phases.{state_in}
use Rattle.igp_theory.specs.Timetables.{Timetable, router_times}
use Rattle.igp_theory.specs.declared.phase.Phase.{Phase}
use Rattle.order_core.specs.declared.turn.Turn.{Turn}
use Rattle.order_search.specs.Meanings.{SameMeaning}
use Rattle.rib_mix.specs.Mixture.{Mixture, migration_of}
use Rattle.loop_finder.specs.Mixes.{Listing}
use Rattle.plan_theory.specs.WavesMeaning.{night_meaning, waves_meaning}
use Rattle.plan_theory.specs.declared.items.Items.TheVariants.{Routers}
use Rattle.wave_oracle.specs.Nights.{Night, night_move}

-- what contracts see of who finds the faults of its rankings, and of its oracle: what is mixed, the phase from which each router
-- goes on, and the turns of the latest loop
pub record RestNight (O N : Type 0) : Type 0 where
  pub mixture : Mixture O N
  pub start : List Phase
  pub turns : List Turn

-- the migration of what is mixed from that start
abbrev pub rest_move : {O N : Type 0} → Listing O → Listing N → RestNight O N → Migration
rest_move old new rest = started (state_in rest.start) (migration_of old new rest.mixture)

-- the timetable that a ranking of all routers makes there: what was made before the start has no wave
abbrev pub rest_times : {O N : Type 0} → RestNight O N → List ℕ → Timetable
rest_times rest = router_times (state_in rest.start)

-- a night ranks the routers of what is mixed, from this start
pub record RanksRest {O N : Type 0} (mixture : Mixture O N) (start : List Phase) (night : Night O N) : Type 0 where
  pub same : night.mixture ≡ mixture
  pub begins : night.start ≡ start
  pub routers : night.items ≡ Routers

-- what is meant by a night is what is meant by wave lists of what is mixed, from this start
abbrev pub MeansRest : {O N : Type 0} → Listing O → Listing N → Mixture O N → List Phase → Night O N → Type 0
MeansRest old new mixture start night =
    SameMeaning (waves_meaning (started (state_in start) (migration_of old new mixture)))
    (night_meaning night.items (night_move old new night))
