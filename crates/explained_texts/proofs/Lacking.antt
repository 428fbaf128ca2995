-- The first phase in which a router lacks a step, and whether it does in a phase.
use Rattle.std.proofs.Common.{◌≡◌, ◌≢◌, Bool, true, ℕ, ◌≤◌, inl, inr, List, Contains, ap, arith, get_or, length, subst, sym}
use Rattle.std.proofs.lemmas.Bool.{OnTrue_at, OnTrue_from, cases_eq}
use Rattle.std.specs.Bool.{OnTrue}
use Rattle.std.proofs.lemmas.List.Elements.{Contains-get_or}
use Rattle.igp_theory.specs.Forwarding.{HasStep, MustForward}
use Rattle.igp_theory.specs.Migrations.{Migration}
use Rattle.igp_theory.specs.Phases.{made_in}
use Rattle.igp_theory.specs.declared.phase.Phase.{Phase}
use Rattle.igp_theory.specs.declared.phase.Phase.TheVariants.{Old, Middle}
use Rattle.igp_theory.proofs.Phases.{made_in_few, phases_same}
use Rattle.rib_mix.specs.Answers.{IsNext, NextLeadsTo}
use Rattle.rib_mix.specs.declared.next.Next.{Next}
use Rattle.rib_mix.proofs.NextLaws.{steps_to_hops}
use Rattle.explained_texts.specs.WayTexts.{InSpan, IsFirstLacking, StateSpan}

module _ (move : Migration) (span : StateSpan) (a u : ℕ) (must : MustForward move.net a u)
    (some : (phase : Phase) × InSpan span u phase × (¬ HasStep move u phase a)) where
  abbrev Lacks : Phase → Type 0
  Lacks phase = ¬ HasStep move u phase a

  in_order : made_in (span.first u) ≤ made_in (span.last u)
  in_order = let from = some.1.from in let upto = some.1.upto in omega (arith, from, upto)

  pub first_lacks : Lacks (span.first u) → IsFirstLacking move span a u (span.first u)
  first_lacks lacks = record {
    must = must;
    between = record { from = omega arith; upto = in_order };
    lacks = lacks;
    earlier = λ other between before. let from = between.from in absurd (omega (arith, from, before));
  }

  module _ (has : HasStep move u (span.first u) a) where
    -- a phase that lacks a step is a later one
    later_than : (phase : Phase) → Lacks phase → made_in phase ≢ made_in (span.first u)
    later_than phase lacks same = lacks (subst (λ (p : Phase). HasStep move u p a) (sym (phases_same phase (span.first u) same)) has)

    pub middle_lacks : span.first u ≡ Old → Lacks Middle → IsFirstLacking move span a u Middle
    middle_lacks old lacks =
        let none = ap made_in old in
        let apart = later_than some.0 some.2 in
        let upto = some.1.upto in
        record {
          must = must;
          between = record { from = omega (arith, none); upto = omega (arith, none, apart, upto) };
          lacks = lacks;
          earlier = λ other between before.
              subst (λ (p : Phase). HasStep move u p a) (phases_same (span.first u) other (omega (arith, none, before))) has;
        }

    pub last_lacks : (span.first u ≡ Old → HasStep move u Middle a) → IsFirstLacking move span a u (span.last u)
    last_lacks middle = record {
      must = must;
      between = record { from = in_order; upto = omega arith };
      lacks = λ has_last. some.2 (subst (λ (p : Phase). HasStep move u p a) last_is has_last);
      earlier = λ other between before. elim (cases_eq (made_in other) (made_in (span.first u))) [
        | inl same ↦ subst (λ (p : Phase). HasStep move u p a) (phases_same (span.first u) other (sym same)) has
        | inr apart ↦
            let from = between.from in
            let few = made_in_few (span.last u) in
            subst (λ (p : Phase). HasStep move u p a) (phases_same Middle other (omega (arith, apart, from, before, few)))
            (middle (phases_same (span.first u) Old (omega (arith, apart, from, before, few))))
      ];
    }
      where
        -- the phase that lacks one is New
        last_is : span.last u ≡ some.0
        last_is =
            let apart = later_than some.0 some.2 in
            let from = some.1.from in
            let upto = some.1.upto in
            let few = made_in_few (span.last u) in
            phases_same (span.last u) some.0 (elim (cases_eq (made_in some.0) 1) [
              | inl one ↦ absurd (some.2 (subst (λ (p : Phase). HasStep move u p a) (phases_same Middle some.0 (sym one))
                  (middle (phases_same (span.first u) Old (omega (arith, one, apart, from))))))
              | inr not ↦ omega (arith, not, apart, from, upto, few)
            ])

-- ---- what an answer leads to ----

pub empty_has_none : (hops : List ℕ) → length hops ≡ 0 → (h : ℕ) → ¬ Contains hops h
empty_has_none hops none h inside = let within = inside.1 in omega (arith, within, none)

pub some_inside : (hops : List ℕ) → ¬ (length hops ≡ 0) → (h : ℕ) × Contains hops h
some_inside hops some = (get_or hops 0 0, Contains-get_or hops 0 0 (omega (arith, some)))

module _ (move : Migration) (u : ℕ) (phase : Phase) (a : ℕ) (next : Next) (is : IsNext move u phase a next) where
  pub nowhere_lacks : ((h : ℕ) → ¬ NextLeadsTo next h) → ¬ HasStep move u phase a
  nowhere_lacks none has = none has.hop ((steps_to_hops move u phase a next has.hop is has.steps.must).0 has.steps)

  pub somewhere_has : MustForward move.net a u → (h : ℕ) × NextLeadsTo next h → HasStep move u phase a
  somewhere_has must some = record { hop = some.0; steps = (steps_to_hops move u phase a next some.0 is must).1 some.1 }

-- what holds where an answer is true
pub on_true : (b : Bool) (P Q : Type 0) → (P → Q) → OnTrue b P → OnTrue b Q
on_true b P Q over is = OnTrue_from b Q (λ (so : b ≡ true). over (OnTrue_at so is))
