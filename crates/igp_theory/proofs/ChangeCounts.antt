-- How many changes are made on a router.
use Rattle.std.proofs.lemmas.Grind.{common_steps}
use Rattle.std.proofs.Common.{◌≡◌, ◌≢◌, ℕ, suc, ◌+◌, ◌⊎◌, inl, inr, List, [], ◌∷◌, ◌++◌, map, Contains, arith, refl, sym, ap, ◌∙◌, subst}
use Rattle.std.specs.List.{AllPairs}
use Rattle.std.proofs.lemmas.Bool.{cases_eq}
use Rattle.std.proofs.lemmas.Bool.Decides.{eqb_tells}
use Rattle.igp_theory.specs.Changes.{Change, first, second, changed}
use Rattle.igp_theory.specs.States.{changes_on}
use Rattle.net_model.proofs.Members.{Contains-none, Contains-first, Contains-rest, Contains-cases}
use Rattle.igp_theory.proofs.OrderedLists.{pairs_first, pairs_rest}
use Rattle.igp_theory.proofs.Phases.{tally}

-- a change of another router doesn't count
pub count_other : (u : ℕ) (c : Change) (changes : List Change) → changed c ≢ u →
    changes_on u (map changed (c ∷ changes)) ≡ changes_on u (map changed changes)
count_other u c changes apart = grind (arith, common_steps, eqb_tells, tally)

-- one of the router itself does
pub count_own : (u : ℕ) (c : Change) (changes : List Change) → changed c ≡ u →
    changes_on u (map changed (c ∷ changes)) ≡ suc (changes_on u (map changed changes))
count_own u c changes own = grind (arith, common_steps, eqb_tells, tally)

pub count_append : (u : ℕ) (one two : List ℕ) → changes_on u (one ++ two) ≡ changes_on u one + changes_on u two
count_append u [] two = omega arith
count_append u (v ∷ one) two = let e : changes_on u (one ++ two) ≡ changes_on u one + changes_on u two = count_append u one two in omega (arith, e)

-- a change that stands in a list once or not at all
pub record StandsOnce (changes : List Change) (c : Change) (times : ℕ) : Type 0 where
  pub either : ((times ≡ 1) × Contains changes c) ⊎ ((times ≡ 0) × (Contains changes c → ⊥))

-- what is made on a router: its first change, and its second
pub record Counted (u : ℕ) (changes : List Change) : Type 0 where
  pub one : ℕ
  pub two : ℕ
  pub is : changes_on u (map changed changes) ≡ one + two
  pub has_one : StandsOnce changes (first u) one
  pub has_two : StandsOnce changes (second u) two

stands_later : {c d : Change} {changes : List Change} {times : ℕ} → c ≢ d → StandsOnce changes d times → StandsOnce (c ∷ changes) d times
stands_later {c} {d} {changes} apart stands = grind (arith, common_steps, Contains-cases, Contains-rest)

stands_first : {c : Change} {changes : List Change} {times : ℕ} → (Contains changes c → ⊥) → StandsOnce changes c times →
    (times ≡ 0) × StandsOnce (c ∷ changes) c 1
stands_first {c} {changes} absent stands = grind (arith, common_steps, Contains-first)

pub counted : (u : ℕ) (changes : List Change) → AllPairs (λ c d. c ≢ d) changes → Counted u changes
counted u [] distinct = record {
  one = 0;
  two = 0;
  is = omega arith;
  has_one = record { either = inr (refl, λ inside. Contains-none (first u) inside) };
  has_two = record { either = inr (refl, λ inside. Contains-none (second u) inside) };
}
counted u (c ∷ changes) distinct = by c refl (counted u changes (pairs_rest (λ x y. x ≢ y) c changes distinct))
  where
    absent : Contains changes c → ⊥
    absent inside = pairs_first (λ x y. x ≢ y) c changes distinct c inside refl

    other : (d : Change) → c ≡ d → changed d ≢ u → Counted u changes → Counted u (c ∷ changes)
    other d is apart rest = record {
      one = rest.one;
      two = rest.two;
      is = count_other u c changes (λ same. apart (ap changed (sym is) ∙ same)) ∙ rest.is;
      has_one = stands_later (λ same. apart (ap changed (sym is ∙ same))) rest.has_one;
      has_two = stands_later (λ same. apart (ap changed (sym is ∙ same))) rest.has_two;
    }

    by : (d : Change) → c ≡ d → Counted u changes → Counted u (c ∷ changes)
    by (first v) is rest = elim (cases_eq v u) [
      | inr apart ↦ other (first v) is apart rest
      | inl same ↦
          let own : c ≡ first u = is ∙ ap first same in
          let here = stands_first absent (subst (λ d. StandsOnce changes d rest.one) (sym own) rest.has_one) in
          record {
            one = 1;
            two = rest.two;
            is = let count = count_own u c changes (ap changed own) in let none = here.0 in let e = rest.is in omega (arith, count, none, e);
            has_one = subst (λ d. StandsOnce (c ∷ changes) d 1) own here.1;
            has_two = stands_later (λ clash. let halves : first u ≡ second u = sym own ∙ clash in cc) rest.has_two;
          }
    ]
    by (second v) is rest = elim (cases_eq v u) [
      | inr apart ↦ other (second v) is apart rest
      | inl same ↦
          let own : c ≡ second u = is ∙ ap second same in
          let here = stands_first absent (subst (λ d. StandsOnce changes d rest.two) (sym own) rest.has_two) in
          record {
            one = rest.one;
            two = 1;
            is = let count = count_own u c changes (ap changed own) in let none = here.0 in let e = rest.is in omega (arith, count, none, e);
            has_one = stands_later (λ clash. let halves : second u ≡ first u = sym own ∙ clash in cc) rest.has_one;
            has_two = subst (λ d. StandsOnce (c ∷ changes) d 1) own here.1;
          }
    ]
