-- What a router does in Middle, told by the answers of a class.
use Rattle.std.proofs.Common.{ℕ, ◌↔◌, inl, inr, Bool, true, false, IsTrue, MatchBool, refl}
use Rattle.std.proofs.lemmas.Bool.{false≢true}
use Rattle.igp_theory.specs.Forwarding.{MustForward}
use Rattle.igp_theory.specs.Migrations.{Migration, started}
use Rattle.igp_theory.specs.Phases.{State}
use Rattle.igp_theory.specs.TimetableLaws.{MiddleStepsAs}
use Rattle.igp_theory.specs.declared.phase.Phase.{Phase}
use Rattle.igp_theory.specs.declared.phase.Phase.TheVariants.{Old, Middle, New}
use Rattle.prefix_atoms.specs.Classes.{Classes, IsInClass}
use Rattle.rib_mix.specs.Answers.{IsNext, IsNextAtAnEnd}
use Rattle.rib_mix.specs.declared.next.Next.{Next}
use Rattle.rib_mix.proofs.NextLaws.{steps_to_hops}
use Rattle.plan_theory.specs.Numbers.{ForwardAlike}
use Rattle.plan_theory.proofs.StartedSteps.{steps_started}

module _ (move : Migration) (start : State) (u a : ℕ) (must : MustForward move.net a u) where
  -- answers that forward alike are steps alike
  as_phase : (phase : Phase) (middle other : Next) → IsNext move u Middle a middle → IsNext move u phase a other → ForwardAlike middle other →
      MiddleStepsAs (started start move) u a phase
  as_phase phase middle other one two alike h =
      let here = steps_to_hops move u Middle a middle h one must in
      let there = steps_to_hops move u phase a other h two must in (
        λ steps. steps_started move start (there.1 ((alike h).0 (here.0 (steps_started (started start move) move.start steps)))),
        λ steps. steps_started move start (here.1 ((alike h).1 (there.0 (steps_started (started start move) move.start steps)))),
      )

  -- and the other way
  alike_of : (phase : Phase) (middle other : Next) → IsNext move u Middle a middle → IsNext move u phase a other →
      MiddleStepsAs (started start move) u a phase → ForwardAlike middle other
  alike_of phase middle other one two alike h =
      let here = steps_to_hops move u Middle a middle h one must in
      let there = steps_to_hops move u phase a other h two must in (
        λ leads. there.0 (steps_started (started start move) move.start ((alike h).0 (steps_started move start (here.1 leads)))),
        λ leads. here.0 (steps_started (started start move) move.start ((alike h).1 (steps_started move start (there.1 leads)))),
      )

  pub middle_told : (classes : Classes) (atom : ℕ) (middle new : Next) (b : Bool) → IsInClass classes atom a → IsNext move u Middle a middle →
      IsNext move u New a new → IsNextAtAnEnd move classes u atom middle → (IsTrue b ↔ ForwardAlike middle new) →
      MatchBool b (MiddleStepsAs (started start move) u a New)
      (MiddleStepsAs (started start move) u a Old × (MiddleStepsAs (started start move) u a New → ⊥))
  middle_told classes atom middle new true class one two end told = as_phase New middle new one two (told.0 refl)
  middle_told classes atom middle new false class one two end told =
      let apart : MiddleStepsAs (started start move) u a New → ⊥ = λ same. false≢true (told.1 (alike_of New middle new one two same)) in
      elim end [
        | inl old ↦ (as_phase Old middle middle one (old a class) (λ h. (λ leads. leads, λ leads. leads)), apart)
        | inr also ↦ absurd (apart (as_phase New middle middle one (also a class) (λ h. (λ leads. leads, λ leads. leads))))
      ]
