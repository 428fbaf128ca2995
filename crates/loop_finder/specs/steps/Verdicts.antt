-- What is told of a class, of a state and of an order, over what is mixed.
use Rattle.std.specs.Prelude.{◌≡◌, ℕ, ◌≤◌, ◌<◌, Bool, List, length, Option, Some, None}
use Rattle.igp_theory.specs.Loops.{Fault as WholeFault, AroundRing, IsFoundRing, IsFault, IsFirstFault}
use Rattle.igp_theory.specs.Phases.{State, state_in}
use Rattle.igp_theory.specs.WaveFaults.{IsFaultOver, IsTimesFault}
use Rattle.igp_theory.specs.TimetableLaws.{IsStateOfSomeWave}
use Rattle.igp_theory.specs.Timetables.{Timetable, IsBetweenStates, IsStateOfWave}
use Rattle.igp_theory.specs.declared.phase.Phase.{Phase}
use Rattle.order_core.specs.Turns.{routers_of}
use Rattle.order_core.specs.declared.turn.Turn.{Turn}
use Rattle.loop_finder.specs.Faults.{told_fault}
use Rattle.loop_finder.specs.Mixes.{sample_of, Mix, migration_in}
use Rattle.loop_finder.specs.steps.ClassSteps.{ClassState, ClassStep, IsTagged, Moves, FirstStuck}
use Rattle.loop_finder.specs.steps.Walks.{ReturnsNever}
use Rattle.loop_finder.specs.declared.fault.Fault.{Fault}
use Rattle.loop_finder.specs.declared.fault.Fault.TheVariants.{Loop, Missing}
use Rattle.loop_finder.specs.Soundness.{SoundAt, Sound}

-- a loop of a class: no router is stuck, and the turns are those of the ring that is told
pub record IsClassLoop (c : ClassState) (a : ℕ) (turns : List Turn) : Type 0 where
  pub address : a ≡ sample_of c.mixture.classes c.atom
  pub moves : (u : ℕ) → Moves c u
  pub found : IsFoundRing (ClassStep c) (length c.mixture.net) (routers_of turns)
  pub tags : AroundRing (λ (s t : Turn). IsTagged c s t.router) turns

-- what is told of two states and a class
abbrev pub Verdict : ClassState → Option Fault → List Turn → Type 0
Verdict c None turns = ((u : ℕ) → Moves c u) × ReturnsNever (ClassStep c)
Verdict c (Some (Loop a)) turns = IsClassLoop c a turns
Verdict c (Some (Missing a u)) turns = (a ≡ sample_of c.mixture.classes c.atom) × FirstStuck c (Some u)

-- two states over what is mixed: the phase of each router in the first and in the last
pub record TwoStates : Type 0 where
  pub mixture : Mix
  pub first : List Phase
  pub last : List Phase

-- those in which the routers have these phases
abbrev pub two_states : Mix → List Phase → List Phase → TwoStates
two_states m first last = record { mixture = m; first = first; last = last }

-- what is told of the class with this number, whichever routers have to pass packets on
pub record IsClassVerdict (s : TwoStates) (atom : ℕ) (result : Option Fault) (turns : List Turn) : Type 0 where
  pub forwards : List Bool
  pub verdict : Verdict (record { mixture = s.mixture; first = s.first; last = s.last; forwards = forwards; atom = atom }) result turns

-- a state is sound for all addresses below one
abbrev pub SoundBelow : Mix → State → ℕ → Type 0
SoundBelow m state a = (b : ℕ) → b < a → SoundAt m state b

-- a state of n routers is between two others: each router is in a phase from the first's up to the last's
abbrev pub IsBetween : ℕ → List Phase → List Phase → State → Type 0
IsBetween n first last = IsBetweenStates n (state_in first) (state_in last)

-- the states between two are sound for a class
abbrev pub IsClearAt : Mix → List Phase → List Phase → ℕ → Type 0
IsClearAt m first last atom = (state : State) → IsBetween (length m.net) first last state → SoundAt m state (sample_of m.classes atom)

-- the states between two are sound for the first n classes
abbrev pub AreClear : Mix → List Phase → List Phase → ℕ → Type 0
AreClear m first last n = (k : ℕ) → k < n → IsClearAt m first last k

-- the fault of the first class that has one
pub record IsFirstTold (s : TwoStates) (fault : Fault) (turns : List Turn) : Type 0 where
  pub atom : ℕ
  pub within : atom < length s.mixture.classes.samples
  pub before : AreClear s.mixture s.first s.last atom
  pub here : IsClassVerdict s atom (Some fault) turns

-- what is told of all classes
abbrev pub Told : TwoStates → Option Fault → List Turn → Type 0
Told s None turns = AreClear s.mixture s.first s.last (length s.mixture.classes.samples)
Told s (Some fault) turns = IsFirstTold s fault turns

-- the fault of a state, as an answer with the turns beside it
abbrev pub Faulty : Mix → State → Fault → List Turn → Type 0
Faulty m state fault turns = IsFault (migration_in m) state (told_fault fault turns)

-- the first fault of an order
abbrev pub FirstFaulty : Mix → List ℕ → ℕ → WholeFault → Type 0
FirstFaulty m order k fault = IsFirstFault (migration_in m) order k fault

-- every state of a wave is sound
abbrev pub SoundWave : Mix → Timetable → ℕ → Type 0
SoundWave m time w = (state : State) → IsStateOfWave (length m.net) time w state → Sound m state

-- every state of the waves before one is sound
abbrev pub SoundWavesBefore : Mix → Timetable → ℕ → Type 0
SoundWavesBefore m time w = (v : ℕ) → 1 ≤ v → v < w → SoundWave m time v

-- every state of a timetable is sound
abbrev pub SoundWaves : Mix → Timetable → Type 0
SoundWaves m time = (state : State) → IsStateOfSomeWave (length m.net) time state → Sound m state

-- the fault of the states of a wave
abbrev pub FaultyWave : Mix → Timetable → ℕ → WholeFault → Type 0
FaultyWave m time w fault = IsFaultOver (migration_in m) (IsStateOfWave (length m.net) time w) fault

-- the fault of a timetable, with the number of the wave
abbrev pub FaultyWaves : Mix → Timetable → ℕ → WholeFault → Type 0
FaultyWaves m time number fault = IsTimesFault (migration_in m) time number fault
