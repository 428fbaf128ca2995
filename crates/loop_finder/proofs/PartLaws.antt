-- What parts tell of all classes.
use Rattle.std.proofs.Common.{arith}
use Rattle.std.proofs.lemmas.Grind.{common_steps}
use Rattle.std.proofs.Common.{◌≡◌, ℕ, ◌<◌, ◌≤◌, Bool, true, List, [], ◌∷◌, length, get_or, Contains, None, inl, inr, refl, sym, ap, subst}
use Rattle.std.proofs.lemmas.Bool.{OnTrue_at, cases_lt}
use Rattle.std.proofs.lemmas.Bool.Decides.{eqb_tells}
use Rattle.std.proofs.lemmas.List.{get_or_past}
use Rattle.igp_theory.specs.Forwarding.{MustForward}
use Rattle.igp_theory.specs.Phases.{State, state_in}
use Rattle.igp_theory.specs.States.{Follows}
use Rattle.igp_theory.specs.declared.phase.Phase.{Phase}
use Rattle.igp_theory.proofs.ForwardingLaws.{every_phase_steps}
use Rattle.igp_theory.proofs.LoopLaws.{old_or_new_step}
use Rattle.igp_theory.proofs.SameTables.{follows_over}
use Rattle.order_core.specs.Marks.{IsMarked}
use Rattle.prefix_atoms.specs.Classes.{HasTarget}
use Rattle.loop_finder.specs.Parts.{PhaseHops, ClassPart, hops_of, no_hops, part_hops, StepsOf, StepsEver, HasStepOf, AllMove, IsPart}
use Rattle.loop_finder.specs.steps.Parts.{PartStep, DifferAt}
use Rattle.loop_finder.specs.Parts.{HaveReturning, NeverUnsound, SoundWith}
use Rattle.loop_finder.specs.Returns.{NeverReturnsTo}
use Rattle.loop_finder.specs.steps.Returns.{MarksReturns}
use Rattle.loop_finder.specs.Mixes.{sample_of, Mix, migration_in, ClassIn, class_in, least_of}
use Rattle.loop_finder.specs.steps.ClassSteps.{ClassState, ClassStep}
use Rattle.loop_finder.specs.Soundness.{SoundAt}
use Rattle.loop_finder.specs.steps.Verdicts.{IsBetween, IsClearAt}
use Rattle.loop_finder.specs.steps.Walks.{ReturnsNever}
use Rattle.loop_finder.proofs.Between.{step_between}
use Rattle.loop_finder.proofs.PartRows.{none_among}
use Rattle.loop_finder.proofs.Returning.{returning, stays_sound}

-- the steps of a state, for a class
abbrev StateStep : Mix → ℕ → State → ℕ → ℕ → Type 0
StateStep m atom state u h = StepsOf (class_in m atom) u (state u) h

-- where all move every state gives each router a step
all_move : (c : ClassIn) (state : State) → AllMove c → (u : ℕ) → MustForward c.mixture.net (least_of c) u → HasStepOf c u (state u)
all_move c state move u must = every_phase_steps (move u must).0 (move u must).1 (state u)

-- where no walk over the steps of both networks returns, every state is sound for the class
pub never_unsound : (m : Mix) (atom : ℕ) (marks : List Bool) → AllMove (class_in m atom) → MarksReturns (StepsEver (class_in m atom)) marks
    → ((u : ℕ) → ¬ IsMarked marks u) → NeverUnsound m atom
never_unsound m atom marks move returns bare state = record {
  forwards = λ u must. all_move (class_in m atom) state move u must;
  returns_never = λ u h hops follows. bare u (returns u h hops (follows_over (λ x y steps. old_or_new_step (state x) steps) u (h ∷ hops) u follows));
}

-- a walk of a state that returns is one over the rows' steps
in_rows : (m : Mix) (atom : ℕ) (rows : List PhaseHops) (state : State) (u h : ℕ) (hops : List ℕ) → HaveReturning (class_in m atom) rows
    → Follows (StateStep m atom state) u (h ∷ hops) u → Follows (λ (x y : ℕ). Contains (hops_of (get_or rows x no_hops) (state x)) y) u (h ∷ hops) u
in_rows m atom rows state u h hops returns follows =
    returning (StateStep m atom state) (StepsEver (class_in m atom)) (λ (x y : ℕ). Contains (hops_of (get_or rows x no_hops) (state x)) y)
    (λ x y steps. old_or_new_step (state x) steps) (λ x y rest steps back. returns x y rest (state x) steps back) u u [] (h ∷ hops) refl follows

-- where a part has each step of a class from which a walk leads back, a state that is sound for its class is sound for that one
pub sound_with : (m : Mix) (part : ClassPart) (atom : ℕ) → IsPart m part → HaveReturning (class_in m atom) part.rows → AllMove (class_in m atom)
    → SoundWith m part.atom atom
sound_with m part atom is returns move state sound = record {
  forwards = λ u must. all_move (class_in m atom) state move u must;
  returns_never = λ u h hops follows. sound.returns_never u h hops (follows_over (λ x y among. is.steps x y (state x) among) u (h ∷ hops) u
      (in_rows m atom part.rows state u h hops returns follows));
}

-- a walk over the steps of two states that returns is one over the part's steps in both
in_part_between : (m : Mix) (part : ClassPart) (first last : List Phase) (state : State) (u h : ℕ) (hops : List ℕ) → IsPart m part
    → IsBetween (length m.net) first last state → Follows (StateStep m part.atom state) u (h ∷ hops) u → Follows (PartStep part first last) u (h ∷ hops) u
in_part_between m part first last state u h hops is between follows =
    returning (ClassStep c) (StepsEver (class_in m part.atom)) (PartStep part first last) over keeps u u [] (h ∷ hops) refl
    (follows_over (λ x y steps. step_between c state x y between steps) u (h ∷ hops) u follows)
  where
    c : ClassState
    c = record { mixture = m; first = first; last = last; forwards = []; atom = part.atom }

    over : (x y : ℕ) → ClassStep c x y → StepsEver (class_in m part.atom) x y
    over x y (inl one) = old_or_new_step (state_in first x) one
    over x y (inr other) = old_or_new_step (state_in last x) other

    keeps : (x y : ℕ) (rest : List ℕ) → ClassStep c x y → Follows (StepsEver (class_in m part.atom)) y rest x → PartStep part first last x y
    keeps x y rest (inl one) back = inl (is.returns x y rest (state_in first x) one back)
    keeps x y rest (inr other) back = inr (is.returns x y rest (state_in last x) other back)

-- where no walk over the part's steps in two states returns, the states between them are sound for the class
pub clear_part : (m : Mix) (part : ClassPart) (first last : List Phase)
    → IsPart m part → part.moves ≡ true → ReturnsNever (PartStep part first last) → IsClearAt m first last part.atom
clear_part m part first last is moves never state between = record {
  forwards = λ u must. all_move (class_in m part.atom) state (OnTrue_at moves is.moves) u must;
  returns_never = λ u h hops follows. never u h hops (in_part_between m part first last state u h hops is between follows);
}

-- where no walk over the part's steps returns to the router that changes, a sound state stays sound for the class
pub part_stays_sound : (m : Mix) (part : ClassPart) (first last : List Phase) (u : ℕ) (before after : State) → IsPart m part
    → part.moves ≡ true → NeverReturnsTo (PartStep part first last) u → DifferAt (length m.net) u before after → IsBetween (length m.net) first last after
    → SoundAt m before (sample_of m.classes part.atom) → SoundAt m after (sample_of m.classes part.atom)
part_stays_sound m part first last u before after is moves never differ between sound =
    stays_sound (migration_in m) (sample_of m.classes part.atom) u before after differ
    (λ h hops follows. never h hops (in_part_between m part first last after u h hops is between follows))
    (all_move (class_in m part.atom) after (OnTrue_at moves is.moves)) sound

-- where the router that changes keeps its hops, a sound state stays sound for the class
pub part_keeps_sound : (m : Mix) (part : ClassPart) (u : ℕ) (before after : State)
    → IsPart m part → part.moves ≡ true → part_hops part u (before u) ≡ part_hops part u (after u) → DifferAt (length m.net) u before after
    → SoundAt m before (sample_of m.classes part.atom) → SoundAt m after (sample_of m.classes part.atom)
part_keeps_sound m part u before after is moves kept differ sound = record {
  forwards = all_move (class_in m part.atom) after (OnTrue_at moves is.moves);
  returns_never = λ v h hops follows. sound.returns_never v h hops (follows_over as_before v (h ∷ hops) v
      (in_rows m part.atom part.rows after v h hops is.returns follows));
}
  where
    same : (x : ℕ) → x < length m.net → part_hops part x (after x) ≡ part_hops part x (before x)
    same x within = elim (eqb_tells x u) [
      | inl here ↦ subst (λ (v : ℕ). part_hops part v (after v) ≡ part_hops part v (before v)) (sym here.1) (sym kept)
      | inr apart ↦ ap (part_hops part x) (differ x within apart.1)
    ]

    as_before : (x y : ℕ) → Contains (part_hops part x (after x)) y → StateStep m part.atom before x y
    as_before x y among = is.steps x y (before x) (subst (λ (hops : List ℕ). Contains hops y) (same x (is.steps x y (after x) among).must.router) among)

-- only a router that has a row steps in a part
pub part_inside : (part : ClassPart) (first last : List Phase) (u h : ℕ) → PartStep part first last u h → u < length part.rows
part_inside part first last u h steps = elim (cases_lt u (length part.rows)) [
  | inl below ↦ below
  | inr past ↦ absurd (elim steps [ inl one ↦ gone past (state_in first u) one | inr other ↦ gone past (state_in last u) other ])
]
  where
    gone : length part.rows ≤ u → (phase : Phase) → Contains (part_hops part u phase) h → ⊥
    gone past phase among = none_among phase h (subst (λ (row : PhaseHops). Contains (hops_of row phase) h) (get_or_past part.rows u no_hops past) among)

-- without a target nothing is passed on, so every state is sound
pub never_without : (m : Mix) (atom : ℕ) → HasTarget m.net (sample_of m.classes atom) None → NeverUnsound m atom
never_without m atom none state = grind (arith, common_steps)
