-- What an answer tells: a fault, with the ring of its loop beside it.
use Rattle.std.specs.Prelude.{◌≡◌, ℕ, List, Option, Some, None}
use Rattle.igp_theory.specs.Loops.{Fault as WholeFault, missing, loop}
use Rattle.igp_theory.specs.Phases.{state_in}
use Rattle.igp_theory.specs.declared.phase.Phase.{Phase}
use Rattle.igp_theory.specs.Migrations.{Migration, started}
use Rattle.rib_mix.specs.Mixture.{Mixture, migration_of}
use Rattle.order_core.specs.declared.turn.Turn.{Turn}
use Rattle.loop_finder.specs.Mixes.{Listing}
use Rattle.loop_finder.specs.declared.fault.Fault.{Fault}
use Rattle.loop_finder.specs.declared.fault.Fault.TheVariants.{Loop, Missing}

-- what contracts see of a finder: what it searches, the phase from which each router starts, and the ring of its latest loop
pub record Finding (O N : Type 0) : Type 0 where
  pub mixture : Mixture O N
  pub start : List Phase
  pub ring : List Turn

-- the migration that it searches, from its start
abbrev pub searched : {O N : Type 0} → Listing O → Listing N → Finding O N → Migration
searched old new finding = started (state_in finding.start) (migration_of old new finding.mixture)

-- the fault that an answer tells, with the turns beside it
abbrev pub told_fault : Fault → List Turn → WholeFault
told_fault (Loop address) turns = loop address turns
told_fault (Missing address router) turns = missing address router

-- only a loop changes the ring
abbrev pub KeepsRing : Option Fault → List Turn → List Turn → Type 0
KeepsRing None old new = new ≡ old
KeepsRing (Some (Loop _)) old new = Unit {0}
KeepsRing (Some (Missing _ _)) old new = new ≡ old

-- the fault alone, of an answer with the number of its state
abbrev pub told : Option (ℕ × Fault) → Option Fault
told None = None
told (Some found) = Some found.1
