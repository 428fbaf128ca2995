-- The states between two: their steps are those of both.
use Rattle.std.proofs.lemmas.Grind.{common_steps}
use Rattle.std.proofs.Common.{◌≡◌, ℕ, ◌⊎◌, List, ◌∷◌, length, Option, None, Some, IfNone, IfSome, inl, inr, arith, sym, subst}
use Rattle.igp_theory.specs.Forwarding.{MustForward, HasStep}
use Rattle.igp_theory.specs.Phases.{State, state_in}
use Rattle.igp_theory.specs.States.{StepsIn}
use Rattle.igp_theory.specs.Timetables.{IsBetweenPhases}
use Rattle.igp_theory.specs.declared.phase.Phase.{Phase}
use Rattle.igp_theory.specs.declared.phase.Phase.TheVariants.{Old, New}
use Rattle.igp_theory.proofs.ForwardingLaws.{every_phase_steps}
use Rattle.igp_theory.proofs.Phases.{step_of_ends}
use Rattle.igp_theory.proofs.SameTables.{follows_over}
use Rattle.order_core.specs.declared.turn.Turn.{Turn}
use Rattle.loop_finder.specs.Mixes.{sample_of, Mix, migration_in}
use Rattle.loop_finder.specs.steps.ClassSteps.{ClassState, ClassStep, MovesIn, Moves}
use Rattle.loop_finder.specs.Soundness.{SoundAt}
use Rattle.loop_finder.specs.steps.Verdicts.{IsClassVerdict, IsBetween, IsClearAt, two_states}
use Rattle.loop_finder.specs.declared.fault.Fault.{Fault}

-- where a router moves it has a step
pub has_step : (c : ClassState) (u : ℕ) (phase : Phase) → MovesIn c u phase → MustForward c.mixture.net (sample_of c.mixture.classes c.atom) u
    → HasStep (migration_in c.mixture) u phase (sample_of c.mixture.classes c.atom)
has_step c u phase moves must = record { hop = (moves must).0; steps = (moves must).1 }

-- a phase between two is one of them, or the one is Old and the other New
between_cases : (one other phase : Phase) → IsBetweenPhases one other phase → (phase ≡ one) ⊎ ((phase ≡ other) ⊎ ((one ≡ Old) × (other ≡ New)))
between_cases one other phase between = grind (arith, common_steps)

-- a state is between itself and itself
pub between_itself : (n : ℕ) (phases : List Phase) → IsBetween n phases phases (state_in phases)
between_itself n phases u within = record { from = omega arith; upto = omega arith }

pub step_between : (c : ClassState) (state : State) (u h : ℕ) → IsBetween (length c.mixture.net) c.first c.last state
    → StepsIn (migration_in c.mixture) state (sample_of c.mixture.classes c.atom) u h → ClassStep c u h
step_between c state u h between steps = step_of_ends (state_in c.first u) (state_in c.last u) (state u) (between u steps.must.router) steps

-- a router that moves in both moves in each state between them
pub moves_between : (c : ClassState) (state : State) (u : ℕ) → IsBetween (length c.mixture.net) c.first c.last state → Moves c u
    → MustForward c.mixture.net (sample_of c.mixture.classes c.atom) u → HasStep (migration_in c.mixture) u (state u) (sample_of c.mixture.classes c.atom)
moves_between c state u between moves must = elim (between_cases (state_in c.first u) (state_in c.last u) (state u) (between u must.router)) [
  | inl same ↦ subst In (sym same) first
  | inr rest ↦ elim rest [
    | inl same ↦ subst In (sym same) last
    | inr both ↦ every_phase_steps (subst In both.0 first) (subst In both.1 last) (state u)
  ]
]
  where
    In : Phase → Type 0
    In phase = HasStep (migration_in c.mixture) u phase (sample_of c.mixture.classes c.atom)

    first : In (state_in c.first u)
    first = has_step c u (state_in c.first u) moves.0 must

    last : In (state_in c.last u)
    last = has_step c u (state_in c.last u) moves.1 must

-- where nothing is told of a class, every state between the two is sound for it
pub clear_told : (m : Mix) (first last : List Phase) (atom : ℕ) (turns : List Turn) → IsClassVerdict (two_states m first last) atom None turns
    → (state : State) → IsBetween (length m.net) first last state → SoundAt m state (sample_of m.classes atom)
clear_told m first last atom turns told state between = record {
  forwards = λ u must. moves_between c state u between (told.verdict.0 u) must;
  returns_never = λ u h hops follows. told.verdict.1 u h hops (follows_over (λ v n steps. step_between c state v n between steps) u (h ∷ hops) u follows);
}
  where
    c : ClassState
    c = record { mixture = m; first = first; last = last; forwards = told.forwards; atom = atom }

-- what is told of a class is told of it under another name
pub told_of_class : (m : Mix) (first last : List Phase) (atom atom' : ℕ) (result : Option Fault) (turns : List Turn) → atom' ≡ atom →
    IsClassVerdict (two_states m first last) atom' result turns →
    IfNone result (IsClearAt m first last atom) × IfSome result (λ fault. IsClassVerdict (two_states m first last) atom (Some fault) turns)
told_of_class m first last atom atom' None turns same told =
    (λ state between. subst (λ (a : ℕ). SoundAt m state (sample_of m.classes a)) same (clear_told m first last atom' turns told state between), tt)
told_of_class m first last atom atom' (Some fault) turns same told =
    (tt, subst (λ (a : ℕ). IsClassVerdict (two_states m first last) a (Some fault) turns) same told)
