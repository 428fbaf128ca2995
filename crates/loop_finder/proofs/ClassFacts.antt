-- What is read of the steps of a state and a class.
use Rattle.std.proofs.Common.{◌≡◌, ℕ, ◌<◌, ◌↔◌, ◌⊎◌, inl, inr, subst, Bool, true, false, List, [], length, get_or, ◌==◌, Contains, eqb-true, eq-eqb, arith, sym, ◌∙◌}
use Rattle.std.specs.Bool.{OnTrue, OnFalse}
use Rattle.std.proofs.lemmas.Bool.{false≢true}
use Rattle.std.proofs.lemmas.List.Elements.{Contains-get_or}
use Rattle.igp_theory.specs.Forwarding.{MustForward}
use Rattle.igp_theory.specs.Phases.{state_in}
use Rattle.igp_theory.specs.declared.phase.Phase.{Phase}
use Rattle.igp_theory.proofs.ForwardingLaws.{every_phase_steps}
use Rattle.net_model.proofs.Members.{Contains-none}
use Rattle.prefix_atoms.specs.Classes.{IsInClass}
use Rattle.rib_mix.specs.Answers.{NextLeadsTo}
use Rattle.rib_mix.proofs.NextLaws.{steps_to_hops}
use Rattle.loop_finder.specs.Parts.{StepsOf, HasStepOf, AllMove}
use Rattle.loop_finder.specs.steps.Making.{IsHopsOf}
use Rattle.loop_finder.specs.Mixes.{sample_of, migration_in, ClassIn, class_in, least_of}
use Rattle.loop_finder.specs.steps.ClassSteps.{ClassState, ClassStep, StepsBy, IsStuckIn, Moves, MovesIn}

-- the hops of what a router does that has to pass packets on
pub steps_to_those : (c : ClassIn) (u : ℕ) (phase : Phase) (hops : List ℕ)
    → IsInClass c.mixture.classes c.atom (least_of c) → IsHopsOf c u phase hops → MustForward c.mixture.net (least_of c) u
    → (h : ℕ) → Contains hops h ↔ StepsOf c u phase h
steps_to_those c u phase hops least are must h =
    let law : StepsOf c u phase h ↔ NextLeadsTo are.next h =
    steps_to_hops (migration_in c.mixture) u phase (least_of c) are.next h (are.is (least_of c) least) must in
    (λ among. law.1 ((are.leads h).0 among), λ steps. (are.leads h).1 (law.0 steps))

-- a router that has to pass packets on is stuck where it has no hops
pub stuck_from : (c : ClassState) (u : ℕ) (phase : Phase) (b : Bool) (hops : List ℕ) → b ≡ (length hops == 0)
    → MustForward c.mixture.net (sample_of c.mixture.classes c.atom) u → ((h : ℕ) → Contains hops h ↔ StepsBy c u phase h) → OnTrue b (IsStuckIn c u phase)
stuck_from c u phase true hops e must exact =
    let none : length hops ≡ 0 = eqb-true (length hops) 0 (sym e) in
    record { must = must; lacks = λ h steps. let among : Contains hops h = (exact h).1 steps in omega (arith, among.1, none) }
stuck_from c u phase false hops e must exact = tt

pub moves_from : (c : ClassState) (u : ℕ) (phase : Phase) (b : Bool) (hops : List ℕ) → b ≡ (length hops == 0)
    → ((h : ℕ) → Contains hops h ↔ StepsBy c u phase h) → OnFalse b (MovesIn c u phase)
moves_from c u phase true hops e exact = tt
moves_from c u phase false hops e exact = λ must.
    let apart : (length hops ≡ 0) → ⊥ = λ none. false≢true (e ∙ eq-eqb (length hops) 0 none) in
    let some : 0 < length hops = omega (arith, apart) in
    (get_or hops 0 0, (exact (get_or hops 0 0)).0 (Contains-get_or hops 0 0 some))

-- where all are known to move in both networks they do in two states
pub all_moves : (c : ClassState) → AllMove (class_in c.mixture c.atom) → (u : ℕ) → Moves c u
all_moves c move u = (at (state_in c.first u), at (state_in c.last u))
  where
    at : (phase : Phase) → MovesIn c u phase
    at phase must =
        let there : HasStepOf (class_in c.mixture c.atom) u phase = every_phase_steps (move u must).0 (move u must).1 phase in
        (there.hop, there.steps)

-- the hops in both phases are those of the steps of two states; where the phases are the same the second ones may be left out
pub steps_of_both : (c : ClassState) (u : ℕ) (one other : Phase) (hops others : List ℕ) → one ≡ state_in c.first u → other ≡ state_in c.last u
    → ((h : ℕ) → Contains hops h ↔ StepsBy c u one h) → ((h : ℕ) → Contains others h ↔ StepsBy c u other h)
    → (h : ℕ) → (Contains hops h ⊎ Contains others h) ↔ ClassStep c u h
steps_of_both c u one other hops others first last are are_others h = (
  λ some. elim some [
    | inl among ↦ inl (subst (λ (phase : Phase). StepsBy c u phase h) first ((are h).0 among))
    | inr among ↦ inr (subst (λ (phase : Phase). StepsBy c u phase h) last ((are_others h).0 among))
  ],
  λ steps. elim steps [
    | inl step ↦ inl ((are h).1 (subst (λ (phase : Phase). StepsBy c u phase h) (sym first) step))
    | inr step ↦ inr ((are_others h).1 (subst (λ (phase : Phase). StepsBy c u phase h) (sym last) step))
  ],
)

pub steps_of_one : (c : ClassState) (u : ℕ) (one other : Phase) (hops : List ℕ) → one ≡ state_in c.first u → other ≡ state_in c.last u → one ≡ other
    → ((h : ℕ) → Contains hops h ↔ StepsBy c u one h) → (h : ℕ) → (Contains hops h ⊎ Contains [] h) ↔ ClassStep c u h
steps_of_one c u one other hops first last same are h = (
  λ some. elim some [ inl among ↦ inl (at first ((are h).0 among)) | inr none ↦ absurd (Contains-none h none) ],
  λ steps. (elim steps [ inl step ↦ inl ((are h).1 (at (sym first) step)) | inr step ↦ inl ((are h).1 (at (sym (same ∙ last)) step)) ]),
)
  where
    at : {phase other : Phase} → phase ≡ other → StepsBy c u phase h → StepsBy c u other h
    at e step = subst (λ (p : Phase). StepsBy c u p h) e step
