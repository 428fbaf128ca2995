-- The fault of a set of states, and of a timetable throughout which a migration isn't sound.
use Rattle.std.specs.Prelude.{ℕ, ◌^◌, ◌<◌, ◌≤◌, List, length}
use Rattle.order_core.specs.Turns.{routers_of}
use Rattle.order_core.specs.declared.turn.Turn.{Turn}
use Rattle.igp_theory.specs.Forwarding.{MustForward, HasStep}
use Rattle.igp_theory.specs.Loops.{IsTag, AroundRing, Fault, missing, loop, IsFoundRing}
use Rattle.igp_theory.specs.Migrations.{Migration}
use Rattle.igp_theory.specs.Phases.{State}
use Rattle.igp_theory.specs.States.{StepsIn, IsSoundAt, IsSound}
use Rattle.igp_theory.specs.Timetables.{Timetable, IsStateOfWave}

-- the steps of a set of states, for one address: each router has every hop that it has in some of them
pub record StepsInSome (move : Migration) (states : State → Type 0) (a u h : ℕ) : Type 0 where
  pub state : State
  pub among : states state
  pub steps : StepsIn move state a u h

-- an address is unsound in some of a set of states
pub record IsUnsoundInSome (move : Migration) (states : State → Type 0) (a : ℕ) : Type 0 where
  pub state : State
  pub among : states state
  pub unsound : IsSoundAt move state a → ⊥

-- a router lacks a step in a set of states: in one of them
pub record LacksStep (move : Migration) (states : State → Type 0) (a u : ℕ) : Type 0 where
  pub must : MustForward move.net a u
  pub state : State
  pub among : states state
  pub lacks : HasStep move u (state u) a → ⊥

-- the router has a step in each of a set of states
abbrev pub HasStepsInAll : Migration → (State → Type 0) → ℕ → ℕ → Type 0
HasStepsInAll move states a u = (state : State) → states state → HasStep move u (state u) a

-- an address is the least one that is unsound in some of a set of states
pub record IsLeastUnsound (move : Migration) (states : State → Type 0) (a : ℕ) : Type 0 where
  pub address : a < 2 ^ 32
  pub unsound : IsUnsoundInSome move states a
  pub below : (b : ℕ) → b < a → (state : State) → states state → IsSoundAt move state b

-- the fault of a set of states at one place: at the least address that is unsound in one of them, the
-- lowest-numbered router that lacks a step for it in one of them, else the ring that is found over every
-- hop that a router has in some of them, with its tags
pub data IsFaultOver (move : Migration) (states : State → Type 0) : Fault → Type 0 where
  missing_in_one : {a u : ℕ} → IsLeastUnsound move states a → LacksStep move states a u →
      ((v : ℕ) → v < u → MustForward move.net a v → HasStepsInAll move states a v) →
      IsFaultOver move states (missing a u)
  loop_over_all : {a : ℕ} {ring : List Turn} → IsLeastUnsound move states a →
      ((v : ℕ) → MustForward move.net a v → HasStepsInAll move states a v) →
      IsFoundRing (StepsInSome move states a) (length move.net) (routers_of ring) →
      AroundRing (λ (r s : Turn). IsTag move a r s.router) ring →
      IsFaultOver move states (loop a ring)

-- the fault of a timetable: its first wave with an unsound state, counted from 1, and the fault of that wave's states
pub record IsTimesFault (move : Migration) (time : Timetable) (w : ℕ) (fault : Fault) : Type 0 where
  pub from_one : 1 ≤ w
  pub before : (v : ℕ) → 1 ≤ v → v < w → (state : State) → IsStateOfWave (length move.net) time v state → IsSound move state
  pub here : IsFaultOver move (IsStateOfWave (length move.net) time w) fault
