-- The steps of routers between their start and New, and the tags by them.
use Rattle.std.specs.Prelude.{ℕ, ◌⊎◌, List}
use Rattle.order_core.specs.Turns.{routers_of}
use Rattle.order_core.specs.declared.turn.Turn.{Turn}
use Rattle.igp_theory.specs.Forwarding.{Steps}
use Rattle.igp_theory.specs.Loops.{AroundRing, IsTag}
use Rattle.igp_theory.specs.Migrations.{Migration}
use Rattle.igp_theory.specs.Phases.{State}
use Rattle.igp_theory.specs.declared.phase.Phase.{Phase}
use Rattle.igp_theory.specs.declared.phase.Phase.TheVariants.{New}
use Rattle.loop_finder.specs.declared.fault.Fault.{Fault}
use Rattle.loop_finder.specs.declared.fault.Fault.TheVariants.{Loop, Missing}

-- a router steps to another in a phase, or in New
abbrev pub StepsEither : Migration → Phase → ℕ → ℕ → ℕ → Type 0
StepsEither move phase a u h = Steps move u phase a h ⊎ Steps move u New a h

-- it does so in its phase of a start, or in New
abbrev pub StepsFrom : Migration → State → ℕ → ℕ → ℕ → Type 0
StepsFrom move start a u h = StepsEither move (start u) a u h

-- where a fault is a loop, each router of its ring does so to the next one
abbrev pub TurnsStep : Migration → State → Fault → List Turn → Type 0
TurnsStep move start (Loop a) turns = AroundRing (StepsFrom move start a) (routers_of turns)
TurnsStep move start (Missing a u) turns = Unit {0}

-- where a fault is a loop, its turns have their tags
abbrev pub TurnsAreTagged : Migration → Fault → List Turn → Type 0
TurnsAreTagged move (Loop a) turns = AroundRing (λ (s t : Turn). IsTag move a s t.router) turns
TurnsAreTagged move (Missing a u) turns = Unit {0}
