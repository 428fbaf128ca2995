-- What is told of the first and the last state of a wave holds of all its states.
use Rattle.std.proofs.Common.{◌≡◌, ℕ, ◌+◌, ◌^◌, ◌<◌, List, length, Option, Some, None, IfSome, IfNone, inl, inr, arith, refl, sym, subst}
use Rattle.order_core.specs.declared.turn.Turn.{Turn}
use Rattle.igp_theory.specs.Forwarding.{MustForward}
use Rattle.igp_theory.specs.Phases.{State, state_in}
use Rattle.igp_theory.specs.Timetables.{Timetable, IsTimetable, IsBetweenPhases, IsStateOfWave, state_before}
use Rattle.igp_theory.specs.WaveFaults.{StepsInSome, LacksStep, HasStepsInAll, IsLeastUnsound, missing_in_one, loop_over_all}
use Rattle.igp_theory.specs.declared.phase.Phase.{Phase}
use Rattle.igp_theory.proofs.FoundRings.{found_ring_returns}
use Rattle.igp_theory.proofs.SameTables.{SameHops, found_ring_over}
use Rattle.igp_theory.proofs.Timetables.{first_of_wave, last_of_wave}
use Rattle.igp_theory.proofs.WaveLoops.{InWave, return_is_unsound}
use Rattle.loop_finder.specs.Faults.{told_fault}
use Rattle.loop_finder.specs.Parts.{ClassPart, AreParts}
use Rattle.loop_finder.specs.Mixes.{sample_of, Mix, migration_in}
use Rattle.loop_finder.specs.steps.ClassSteps.{ClassState, ClassStep, IsStuck, Moves}
use Rattle.loop_finder.specs.Soundness.{SoundAt}
use Rattle.loop_finder.specs.steps.Times.{IsInOrder}
use Rattle.loop_finder.specs.steps.Verdicts.{Verdict, Told, SoundWave, FaultyWave, IsBetween, two_states}
use Rattle.loop_finder.specs.steps.WaveStarts.{BeginWave}
use Rattle.loop_finder.specs.declared.fault.Fault.{Fault}
use Rattle.loop_finder.specs.declared.fault.Fault.TheVariants.{Loop, Missing}
use Rattle.loop_finder.proofs.Between.{step_between, moves_between}
use Rattle.loop_finder.proofs.ClassVerdicts.{sample_in}
use Rattle.loop_finder.proofs.StateVerdicts.{below_from, sound_from_classes}

-- the first and the last state of a wave of n routers
pub record AreEnds (n : ℕ) (time : Timetable) (w : ℕ) (first last : List Phase) : Type 0 where
  pub order : IsInOrder time
  pub begins : BeginWave n time w first
  pub ends : BeginWave n time (w + 1) last

pub ends_by : {n k : ℕ} {time : Timetable} {w : ℕ} {first last one other : List Phase} → k ≡ n → IsInOrder time → one ≡ first → other ≡ last →
    BeginWave k time w first → BeginWave k time (w + 1) last → AreEnds n time w one other
ends_by {k = k} {time = time} {w = w} many order is_first is_last begins ends = record {
  order = order;
  begins = λ u within. subst (BeginWave k time w) (sym is_first) begins u (omega (arith, within, many));
  ends = λ u within. subst (BeginWave k time (w + 1)) (sym is_last) ends u (omega (arith, within, many));
}

-- it is a timetable from the state in which its first wave begins
pub table_of : (n : ℕ) (time : Timetable) → IsInOrder time → IsTimetable n (state_before time 1) time
table_of n time order = record { in_order = order; begins = λ u below. refl }

-- both are states of the wave
pub first_in_wave : {n : ℕ} {time : Timetable} {w : ℕ} {first last : List Phase} → AreEnds n time w first last → IsStateOfWave n time w (state_in first)
first_in_wave {n} {time} {w} ends u within =
    subst (IsBetweenPhases (state_before time w u) (state_before time (w + 1) u)) (sym (ends.begins u within))
    (first_of_wave (table_of n time ends.order) w u within)

last_in_wave : {n : ℕ} {time : Timetable} {w : ℕ} {first last : List Phase} → AreEnds n time w first last → IsStateOfWave n time w (state_in last)
last_in_wave {n} {time} {w} ends u within =
    subst (IsBetweenPhases (state_before time w u) (state_before time (w + 1) u)) (sym (ends.ends u within))
    (last_of_wave (table_of n time ends.order) w u within)

-- a state of the wave is between them, and one between them is of the wave
pub wave_between : {n : ℕ} {time : Timetable} {w : ℕ} {first last : List Phase} (state : State) → AreEnds n time w first last →
    IsStateOfWave n time w state → IsBetween n first last state
wave_between {time = time} {w = w} {first = first} state ends of_wave u within =
    subst (λ (phase : Phase). IsBetweenPhases (state_in first u) phase (state u)) (sym (ends.ends u within))
    (subst (λ (phase : Phase). IsBetweenPhases phase (state_before time (w + 1) u) (state u)) (sym (ends.begins u within)) (of_wave u within))

pub state_between : {n : ℕ} {time : Timetable} {w : ℕ} {first last : List Phase} (state : State) → AreEnds n time w first last →
    IsBetween n first last state → IsStateOfWave n time w state
state_between {time = time} {w = w} {last = last} state ends between u within =
    subst (λ (phase : Phase). IsBetweenPhases (state_before time w u) phase (state u)) (ends.ends u within)
    (subst (λ (phase : Phase). IsBetweenPhases phase (state_in last u) (state u)) (ends.begins u within) (between u within))

-- the steps of all states of the wave are those of both
wave_steps : (c : ClassState) (time : Timetable) (w : ℕ) → AreEnds (length c.mixture.net) time w c.first c.last
    → SameHops (ClassStep c) (StepsInSome (migration_in c.mixture) (IsStateOfWave (length c.mixture.net) time w) (sample_of c.mixture.classes c.atom))
wave_steps c time w ends u h = (
  λ steps. elim steps [
    | inl one ↦ record { state = state_in c.first; among = first_in_wave ends; steps = one }
    | inr other ↦ record { state = state_in c.last; among = last_in_wave ends; steps = other }
  ],
  λ some. step_between c some.state u h (wave_between some.state ends some.among) some.steps,
)

-- a router that moves in both moves in all states of the wave
steps_in_all : (c : ClassState) (time : Timetable) (w : ℕ) (u : ℕ) → AreEnds (length c.mixture.net) time w c.first c.last → Moves c u
    → MustForward c.mixture.net (sample_of c.mixture.classes c.atom) u
    → HasStepsInAll (migration_in c.mixture) (IsStateOfWave (length c.mixture.net) time w) (sample_of c.mixture.classes c.atom) u
steps_in_all c time w u ends moves must state of_wave = moves_between c state u (wave_between state ends of_wave) moves must

-- a router that is stuck in one of both lacks a step in a state of the wave
lacks_from : (c : ClassState) (time : Timetable) (w : ℕ) (u : ℕ) → AreEnds (length c.mixture.net) time w c.first c.last → IsStuck c u
    → LacksStep (migration_in c.mixture) (IsStateOfWave (length c.mixture.net) time w) (sample_of c.mixture.classes c.atom) u
lacks_from c time w u ends (inl one) =
    record { must = one.must; state = state_in c.first; among = first_in_wave ends; lacks = λ has. one.lacks has.hop has.steps }
lacks_from c time w u ends (inr other) =
    record { must = other.must; state = state_in c.last; among = last_in_wave ends; lacks = λ has. other.lacks has.hop has.steps }

-- at a class for which all lower addresses are sound the fault of the wave is told
abbrev LeastIn : ClassState → Timetable → ℕ → Type 0
LeastIn c time w = IsLeastUnsound (migration_in c.mixture) (IsStateOfWave (length c.mixture.net) time w) (sample_of c.mixture.classes c.atom)

abbrev SoundLower : ClassState → Timetable → ℕ → Type 0
SoundLower c time w =
    (b : ℕ) → b < sample_of c.mixture.classes c.atom → (state : State) → IsStateOfWave (length c.mixture.net) time w state → SoundAt c.mixture state b

fault_from : (c : ClassState) (time : Timetable) (w : ℕ) (turns : List Turn) (fault : Fault) → AreEnds (length c.mixture.net) time w c.first c.last
    → sample_of c.mixture.classes c.atom < 2 ^ 32 → SoundLower c time w → Verdict c (Some fault) turns → FaultyWave c.mixture time w (told_fault fault turns)
fault_from c time w turns (Loop a) ends address below verdict =
    let found = found_ring_over (wave_steps c time w ends) verdict.found in
    let returns = found_ring_returns found in
    let least : LeastIn c time w = record {
      address = address;
      unsound = return_is_unsound (migration_in c.mixture) (InWave time w) (sample_of c.mixture.classes c.atom) found.again
          returns.hop returns.hops returns.follows;
      below = below;
    } in
    subst (λ (x : ℕ). FaultyWave c.mixture time w (told_fault (Loop x) turns)) (sym verdict.address)
    (loop_over_all least (λ v must. steps_in_all c time w v ends (verdict.moves v) must) found verdict.tags)
fault_from c time w turns (Missing a u) ends address below verdict =
    let lack = lacks_from c time w u ends verdict.1.0 in
    let least : LeastIn c time w = record {
      address = address;
      unsound = record { state = lack.state; among = lack.among; unsound = λ sound. lack.lacks (sound.forwards u lack.must) };
      below = below;
    } in
    subst (λ (x : ℕ). FaultyWave c.mixture time w (told_fault (Missing x u) turns)) (sym verdict.0)
    (missing_in_one least lack (λ v before must. steps_in_all c time w v ends (verdict.1.1 v before) must))

-- no fault tells that every state of the wave is sound, a fault tells it
pub told_of_wave : {m : Mix} {parts : List ClassPart} {n w : ℕ} {time : Timetable} {first last : List Phase} (result : Option Fault) (turns : List Turn)
    → AreParts m parts n → AreEnds (length m.net) time w first last → Told (two_states m first last) result turns
    → IfNone result (SoundWave m time w) × IfSome result (λ fault. FaultyWave m time w (told_fault fault turns))
told_of_wave {m} None turns are ends told = (
  λ state of_wave. sound_from_classes m state (length m.classes.samples) are.classes (omega arith) (λ j below.
      told j below state (wave_between state ends of_wave)),
  tt,
)
told_of_wave {m} {w = w} {time = time} {first = first} {last = last} (Some fault) turns are ends told = (
  tt,
  fault_from (record { mixture = m; first = first; last = last; forwards = told.here.forwards; atom = told.atom }) time w turns fault ends
      (sample_in m.classes told.atom are.classes told.within).address
      (λ b less state of_wave. below_from m state told.atom are.classes told.within (λ j below. told.before j below state (wave_between state ends of_wave))
      b less) told.here.verdict,
)
