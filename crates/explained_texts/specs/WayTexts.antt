-- The way of a packet where a list isn't safe: its target, and what each router of the fault uses for it, in one state.
use Rattle.std.specs.Prelude.{◌≡◌, ℕ, ◌+◌, ◌^◌, ◌<◌, ◌↔◌, List, ◌∷◌, ◌++◌, length, map, codes, AllPairs, Contains}
use Rattle.net_addr.specs.Addresses.{Block}
use Rattle.net_model.specs.Network.{Connected, Network}
use Rattle.net_model.specs.RouterNames.{names_of}
use Rattle.order_core.specs.declared.turn.Tag.{Tag}
use Rattle.order_core.specs.declared.turn.Tag.TheVariants as tag
use Rattle.order_core.specs.declared.turn.Turn.{Turn}
use Rattle.igp_theory.specs.Forwarding.{HasStep, IsTarget, LeadsTo, MustForward, Steps, Usable, Uses}
use Rattle.igp_theory.specs.Loops.{AroundRing, Fault, loop, missing}
use Rattle.igp_theory.specs.Migrations.{Migration}
use Rattle.igp_theory.specs.Phases.{State, made_in}
use Rattle.igp_theory.specs.States.{state_of}
use Rattle.igp_theory.specs.Timetables.{IsBetweenPhases, Timetable, change_times, router_times, state_before}
use Rattle.igp_theory.specs.declared.phase.Phase.{Phase}
use Rattle.printed_lines.specs.Words.{prefix_word, router_word}
use Rattle.printed_lines.specs.Texts.{line}
use Rattle.explained_texts.specs.ToldItems.{AreTold}
use Rattle.explained_texts.specs.UseWords.{AreUseWords, phase_word}

-- ---- the states in which a fault was found ----

-- the states from one up to another
pub record StateSpan : Type 0 where
  pub first : State
  pub last : State

-- the one state after so many changes of an order
abbrev pub order_span : List ℕ → ℕ → StateSpan
order_span order k = record { first = state_of order k; last = state_of order k }

-- the states of a wave, counted from 1, of a timetable: from that in which it begins to that in which it ends
abbrev pub times_span : Timetable → ℕ → StateSpan
times_span time w = record { first = state_before time w; last = state_before time (w + 1) }

-- of ranked routers that start so
abbrev pub wave_span : State → List ℕ → ℕ → StateSpan
wave_span start ranks w = times_span (router_times start ranks) w

-- of ranked single changes
abbrev pub change_span : List ℕ → ℕ → StateSpan
change_span ranks w = times_span (change_times ranks) w

-- the phase of a router in a span
abbrev pub InSpan : StateSpan → ℕ → Phase → Type 0
InSpan span u phase = IsBetweenPhases (span.first u) (span.last u) phase

-- ---- the one of them that is told ----

-- a router tagged New is as the span ends, another one as it begins
abbrev pub told_phase : StateSpan → Tag → ℕ → Phase
told_phase span tag.Old u = span.first u
told_phase span tag.New u = span.last u
told_phase span tag.Both u = span.first u

abbrev pub turn_phase : StateSpan → Turn → Phase
turn_phase span turn = told_phase span turn.tag turn.router

-- a router that lacks a step is in the first phase of the span in which it does
pub record IsFirstLacking (move : Migration) (span : StateSpan) (a u : ℕ) (phase : Phase) : Type 0 where
  pub must : MustForward move.net a u
  pub between : InSpan span u phase
  pub lacks : ¬ HasStep move u phase a
  pub earlier : (other : Phase) → InSpan span u other → made_in other < made_in phase → HasStep move u other a

-- ---- lines ----

-- the routers at which a prefix is connected
pub record AreOriginators (net : Network) (p : Block) (routers : List ℕ) : Type 0 where
  pub exact : (u : ℕ) → Contains routers u ↔ Connected net u p
  pub ascending : AllPairs (λ u v. u < v) routers

-- the target of an address, with those routers
pub record IsTargetLine (net : Network) (a : ℕ) (text : List ℕ) : Type 0 where
  pub target : Block
  pub is_target : IsTarget net a target
  pub routers : List ℕ
  pub originators : AreOriginators net target routers
  pub text_is : text ≡ line (codes "target") (prefix_word target ∷ codes "at" ∷ map (router_word (names_of net)) routers)

-- what a router uses in a phase
pub record IsUseLine (move : Migration) (a u : ℕ) (phase : Phase) (text : List ℕ) : Type 0 where
  pub words : List (List ℕ)
  pub used : AreUseWords move u phase a words
  pub text_is : text ≡ line (codes "at") (router_word (names_of move.net) u ∷ phase_word phase ∷ words)

-- ---- the text ----

-- router u steps to h, and whatever it uses leads there
pub record UsesTowards (move : Migration) (u : ℕ) (phase : Phase) (a h : ℕ) : Type 0 where
  pub steps : Steps move u phase a h
  pub each : (used : Usable) → Uses move u phase a used → LeadsTo used h

-- of a ring the line of each of its routers, which steps by the entry told to the next one; of a missing step the line of the
-- router that lacks it
pub data IsWayText (move : Migration) (span : StateSpan) : Fault → List ℕ → Type 0 where
  of_ring : (a : ℕ) (ring : List Turn) (first rest : List ℕ) → IsTargetLine move.net a first →
      AroundRing (λ (r s : Turn). UsesTowards move r.router (turn_phase span r) a s.router) ring →
      AreTold (λ (turn : Turn). IsUseLine move a turn.router (turn_phase span turn)) ring rest →
      IsWayText move span (loop a ring) (first ++ rest)
  of_router : (a u : ℕ) (phase : Phase) (first rest : List ℕ) → IsTargetLine move.net a first →
      IsFirstLacking move span a u phase → IsUseLine move a u phase rest → IsWayText move span (missing a u) (first ++ rest)

-- what is asked of a fault so that its way can be told: a router that has to pass packets on lacks a step in some phase of the
-- span; or those of a ring step each to the next in the phases that are told
pub data IsFaultInSpan (move : Migration) (span : StateSpan) : Fault → Type 0 where
  lacks_step : (a u : ℕ) (phase : Phase) → a < 2 ^ 32 → MustForward move.net a u → InSpan span u phase →
      ¬ HasStep move u phase a → IsFaultInSpan move span (missing a u)
  goes_round : (a : ℕ) (ring : List Turn) → a < 2 ^ 32 → 0 < length ring →
      AroundRing (λ (r s : Turn). Steps move r.router (turn_phase span r) a s.router) ring → IsFaultInSpan move span (loop a ring)
