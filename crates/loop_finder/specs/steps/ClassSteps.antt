-- The steps of two states, for the addresses of one class: both are the state looked at, or the ends of a wave.
use Rattle.std.specs.Prelude.{◌≡◌, ℕ, ◌<◌, ◌↔◌, ◌⊎◌, Bool, List, length, Option, Some, None}
use Rattle.std.specs.Bool.{OnTrue}
use Rattle.net_model.specs.Network.{Network}
use Rattle.igp_theory.specs.Forwarding.{MustForward, Steps}
use Rattle.igp_theory.specs.Loops.{IsTag}
use Rattle.igp_theory.specs.declared.phase.Phase.{Phase}
use Rattle.order_core.specs.Marks.{IsMarked}
use Rattle.order_core.specs.declared.turn.Turn.{Turn}
use Rattle.rib_mix.specs.Mixture.{Mixture}
use Rattle.igp_theory.specs.Phases.{state_in}
use Rattle.loop_finder.specs.Mixes.{Listing, Mix, class_in, mix_of, migration_in, sample_of}
use Rattle.loop_finder.specs.Parts.{AllMove}

-- two states and a class: what is mixed, the phase of each router in the first state and in the last, whether
-- each router has to pass packets on, and the class
pub record ClassState : Type 0 where
  pub mixture : Mix
  pub first : List Phase
  pub last : List Phase
  pub forwards : List Bool
  pub atom : ℕ

-- that of two sources
pub record SourceState (O N : Type 0) : Type 0 where
  pub mixture : Mixture O N
  pub first : List Phase
  pub last : List Phase
  pub forwards : List Bool
  pub atom : ℕ

abbrev pub state_over : {O N : Type 0} → Listing O → Listing N → SourceState O N → ClassState
state_over old new s = record { mixture = mix_of old new s.mixture; first = s.first; last = s.last; forwards = s.forwards; atom = s.atom }

-- the marked routers are those that have to pass packets on
abbrev pub AreForwarders : Network → ℕ → List Bool → Type 0
AreForwarders net a forwards = (u : ℕ) → IsMarked forwards u ↔ MustForward net a u

-- what two states and a class keep, of which all routers may be known to move in both networks
pub record IsClassState (c : ClassState) (moves : Bool) : Type 0 where
  pub inside : c.atom < length c.mixture.classes.samples
  pub first_phases : length c.first ≡ length c.mixture.net
  pub last_phases : length c.last ≡ length c.mixture.net
  pub many : length c.forwards ≡ length c.mixture.net
  pub forwarders : AreForwarders c.mixture.net (sample_of c.mixture.classes c.atom) c.forwards
  pub moving : OnTrue moves (AllMove (class_in c.mixture c.atom))

-- a router steps to another in a phase, for the addresses of the class
abbrev pub StepsBy : ClassState → ℕ → Phase → ℕ → Type 0
StepsBy c u phase h = Steps (migration_in c.mixture) u phase (sample_of c.mixture.classes c.atom) h

-- a router steps to another in one of the states
abbrev pub ClassStep : ClassState → ℕ → ℕ → Type 0
ClassStep c u h = StepsBy c u (state_in c.first u) h ⊎ StepsBy c u (state_in c.last u) h

-- a router of a ring has the tag by which it steps to the next one
abbrev pub IsTagged : ClassState → Turn → ℕ → Type 0
IsTagged c turn next = IsTag (migration_in c.mixture) (sample_of c.mixture.classes c.atom) turn next

-- a router has to pass packets on, and has no step in a phase
pub record IsStuckIn (c : ClassState) (u : ℕ) (phase : Phase) : Type 0 where
  pub must : MustForward c.mixture.net (sample_of c.mixture.classes c.atom) u
  pub lacks : (h : ℕ) → ¬ StepsBy c u phase h

-- a router that has to pass packets on has a step in a phase
abbrev pub MovesIn : ClassState → ℕ → Phase → Type 0
MovesIn c u phase = MustForward c.mixture.net (sample_of c.mixture.classes c.atom) u → (h : ℕ) × StepsBy c u phase h

-- a router has to pass packets on, and has no step in one of the states
abbrev pub IsStuck : ClassState → ℕ → Type 0
IsStuck c u = IsStuckIn c u (state_in c.first u) ⊎ IsStuckIn c u (state_in c.last u)

-- a router that has to pass packets on has a step in both
abbrev pub Moves : ClassState → ℕ → Type 0
Moves c u = MovesIn c u (state_in c.first u) × MovesIn c u (state_in c.last u)

-- the lowest-numbered router that is stuck, none where all move
abbrev pub FirstStuck : ClassState → Option ℕ → Type 0
FirstStuck c None = (u : ℕ) → Moves c u
FirstStuck c (Some u) = IsStuck c u × ((v : ℕ) → v < u → Moves c v)
