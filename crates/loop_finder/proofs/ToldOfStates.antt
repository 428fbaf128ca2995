-- What is told of a state twice holds of the state.
use Rattle.std.proofs.Common.{ℕ, ◌^◌, ◌<◌, Bool, List, length, Option, Some, None, IfSome, IfNone, inl, inr, arith, sym, subst}
use Rattle.igp_theory.specs.Loops.{missing_step, loop_arises}
use Rattle.igp_theory.specs.States.{StepsIn}
use Rattle.igp_theory.specs.declared.phase.Phase.{Phase}
use Rattle.igp_theory.proofs.SameTables.{SameHops, found_ring_over}
use Rattle.order_core.specs.declared.turn.Turn.{Turn}
use Rattle.igp_theory.specs.Phases.{state_in}
use Rattle.loop_finder.specs.Parts.{ClassPart, AreParts}
use Rattle.loop_finder.specs.Mixes.{sample_of, Mix, migration_in}
use Rattle.loop_finder.specs.steps.ClassSteps.{ClassState, ClassStep, IsStuckIn}
use Rattle.loop_finder.specs.Soundness.{ClassesOf, SoundAt, Sound}
use Rattle.loop_finder.specs.steps.Verdicts.{Verdict, IsClassVerdict, Told, SoundBelow, Faulty, two_states}
use Rattle.loop_finder.specs.declared.fault.Fault.{Fault}
use Rattle.loop_finder.specs.declared.fault.Fault.TheVariants.{Loop, Missing}
use Rattle.loop_finder.proofs.Between.{has_step, between_itself}
use Rattle.loop_finder.proofs.ClassVerdicts.{sample_in}
use Rattle.loop_finder.proofs.StateVerdicts.{below_from, sound_from_classes}

-- a state, twice, and a class
abbrev pub twice : Mix → List Phase → List Bool → ℕ → ClassState
twice m phases forwards atom = record { mixture = m; first = phases; last = phases; forwards = forwards; atom = atom }

-- the steps of a state, twice, are its steps
same_steps : (m : Mix) (phases : List Phase) (forwards : List Bool) (atom : ℕ)
    → SameHops (ClassStep (twice m phases forwards atom)) (StepsIn (migration_in m) (state_in phases) (sample_of m.classes atom))
same_steps m phases forwards atom u h = (λ steps. elim steps [ inl one ↦ one | inr other ↦ other ], λ steps. inl steps)

fault_from : (m : Mix) (phases : List Phase) (forwards : List Bool) (atom : ℕ) (turns : List Turn) (fault : Fault) → sample_of m.classes atom < 2 ^ 32
    → SoundBelow m (state_in phases) (sample_of m.classes atom) → Verdict (twice m phases forwards atom) (Some fault) turns →
    Faulty m (state_in phases) fault turns
fault_from m phases forwards atom turns (Loop a) address below verdict =
    let c : ClassState = twice m phases forwards atom in
    subst (λ (x : ℕ). Faulty m (state_in phases) (Loop x) turns) (sym verdict.address)
    (loop_arises address below (λ v must. has_step c v (state_in phases v) (verdict.moves v).0 must)
    (found_ring_over (same_steps m phases forwards atom) verdict.found) verdict.tags)
fault_from m phases forwards atom turns (Missing a u) address below verdict =
    let c : ClassState = twice m phases forwards atom in
    let stuck : IsStuckIn c u (state_in phases u) = elim verdict.1.0 [ inl one ↦ one | inr other ↦ other ] in
    subst (λ (x : ℕ). Faulty m (state_in phases) (Missing x u) turns) (sym verdict.0)
    (missing_step address below stuck.must (λ has. stuck.lacks has.hop has.steps) (λ v before must. has_step c v (state_in phases v)
    (verdict.1.1 v before).0 must))

-- the fault that is told of a class is that of a state which is sound for the classes before it
pub faulty_at : (m : Mix) (phases : List Phase) (atom : ℕ) (turns : List Turn) (fault : Fault) → ClassesOf m → atom < length m.classes.samples
    → ((k : ℕ) → k < atom → SoundAt m (state_in phases) (sample_of m.classes k)) → IsClassVerdict (two_states m phases phases) atom (Some fault) turns →
    Faulty m (state_in phases) fault turns
faulty_at m phases atom turns fault are within before told =
    fault_from m phases told.forwards atom turns fault (sample_in m.classes atom are within).address
    (below_from m (state_in phases) atom are within before) told.verdict

-- no fault tells that the state is sound, a fault tells it
pub told_of_state : {m : Mix} {parts : List ClassPart} {n : ℕ} (phases : List Phase) (result : Option Fault) (turns : List Turn) → AreParts m parts n
    → Told (two_states m phases phases) result turns
    → IfNone result (Sound m (state_in phases)) × IfSome result (λ fault. Faulty m (state_in phases) fault turns)
told_of_state {m} phases None turns are told = (
  sound_from_classes m (state_in phases) (length m.classes.samples) are.classes (omega arith) (λ j below.
      told j below (state_in phases) (between_itself (length m.net) phases)),
  tt,
)
told_of_state {m} phases (Some fault) turns are told = (
  tt,
  faulty_at m phases told.atom turns fault are.classes told.within (λ j below. told.before j below (state_in phases) (between_itself (length m.net) phases))
      told.here,
)
