-- How many changes of a router are among changes that begin a run.
use Rattle.std.proofs.lemmas.Grind.{common_steps}
use Rattle.std.proofs.Common.{◌≡◌, ◌≢◌, ℕ, ◌+◌, ◌*◌, ◌<◌, ◌≤◌, inl, inr, List, [], ◌∷◌, length, map, get_or, Contains}
use Rattle.std.proofs.Common.{AllPairs, refl, ap, subst, ◌∙◌, arith}
use Rattle.std.specs.List.{All}
use Rattle.std.proofs.lemmas.Bool.{cases_eq}
use Rattle.std.proofs.lemmas.List.{length-map}
use Rattle.std.proofs.lemmas.List.Elements.{Contains-get_or}
use Rattle.net_model.proofs.Members.{Contains-none, Contains-first, Contains-rest, Contains-cases, Contains-map}
use Rattle.order_core.proofs.DistinctLists.{length-le_from_distinct}
use Rattle.igp_theory.specs.States.{changes_on}
use Rattle.igp_theory.specs.Changes.{Change, first, second, changed}
use Rattle.igp_theory.specs.Phases.{all_old}
use Rattle.igp_theory.specs.Timetables.{Timetable, MayPrecede, router_times}
use Rattle.igp_theory.proofs.OrderedLists.{pairs_none, pairs_more, pairs_first, pairs_rest}
use Rattle.igp_theory.proofs.ChangeCounts.{count_other, count_own}
use Rattle.state_replay.specs.Journals.{BeginRun}
use Rattle.state_replay.proofs.Fronts.{AreInFront, front_of_run}

-- a number is 1 where a change is made, and 0 where it isn't
pub record IsCountOf (changes : List Change) (c : Change) (k : ℕ) : Type 0 where
  pub made : (k ≡ 1) → Contains changes c
  pub one : Contains changes c → k ≡ 1
  pub most : k ≤ 1

-- the changes made on a router are its first one, where that is made, and its second one
pub record IsCounted (changes : List Change) (u : ℕ) : Type 0 where
  pub firsts : ℕ
  pub seconds : ℕ
  pub sum : changes_on u (map changed changes) ≡ firsts + seconds
  pub first_is : IsCountOf changes (first u) firsts
  pub second_is : IsCountOf changes (second u) seconds

-- one more change, another one than c
count_stays : (changes : List Change) (c d : Change) (k : ℕ) → d ≢ c → IsCountOf changes c k → IsCountOf (d ∷ changes) c k
count_stays changes c d k apart is = record {
  made = λ e. Contains-rest d changes c (is.made e);
  one = λ inside. elim (Contains-cases d changes c inside) [ inl same ↦ absurd (apart same) | inr there ↦ is.one there ];
  most = is.most;
}

count_first : (changes : List Change) (c d : Change) → d ≡ c → IsCountOf (d ∷ changes) c 1
count_first changes c d same = record {
  made = λ e. subst (λ (x : Change). Contains (d ∷ changes) x) same (Contains-first d changes);
  one = λ inside. refl;
  most = omega arith;
}

-- a change that isn't made counts as 0
count_zero : (changes : List Change) (c : Change) (k : ℕ) → IsCountOf changes c k → (Contains changes c → ⊥) → k ≡ 0
count_zero changes c k is absent = elim (cases_eq k 1) [
  | inl one ↦ absurd (absent (is.made one))
  | inr apart ↦ let most = is.most in omega (arith, most, apart)
]

pub counted : (time : Timetable) (changes : List Change) (u : ℕ) → AllPairs (MayPrecede time) changes → IsCounted changes u
counted time [] u pairs = record {
  firsts = 0;
  seconds = 0;
  sum = refl;
  first_is = none_of (first u);
  second_is = none_of (second u);
}
  where
    none_of : (c : Change) → IsCountOf [] c 0
    none_of c = record { made = λ e. absurd (omega (arith, e)); one = λ inside. absurd (Contains-none c inside); most = omega arith }
counted time (c ∷ changes) u pairs = by_change c (counted time changes u (pairs_rest (MayPrecede time) c changes pairs)) absent
  where
    absent : Contains changes c → ⊥
    absent inside = (pairs_first (MayPrecede time) c changes pairs c inside).other refl

    by_change : (d : Change) → IsCounted changes u → (Contains changes d → ⊥) → IsCounted (d ∷ changes) u
    by_change (first v) rest not = elim (cases_eq v u) [
      | inl same ↦
          let none : rest.firsts ≡ 0 =
          count_zero changes (first u) rest.firsts rest.first_is (subst (λ (w : ℕ). Contains changes (first w) → ⊥) same not) in
          let more = count_own u (first v) changes same in
          let sum = rest.sum in
          record {
            firsts = 1;
            seconds = rest.seconds;
            sum = omega (arith, more, sum, none);
            first_is = count_first changes (first u) (first v) (ap first same);
            second_is = count_stays changes (second u) (first v) rest.seconds (λ e. cc) rest.second_is;
          }
      | inr apart ↦ record {
        firsts = rest.firsts;
        seconds = rest.seconds;
        sum = count_other u (first v) changes apart ∙ rest.sum;
        first_is = count_stays changes (first u) (first v) rest.firsts (λ e. apart (ap changed e)) rest.first_is;
        second_is = count_stays changes (second u) (first v) rest.seconds (λ e. cc) rest.second_is;
      }
    ]
    by_change (second v) rest not = elim (cases_eq v u) [
      | inl same ↦
          let none : rest.seconds ≡ 0 =
          count_zero changes (second u) rest.seconds rest.second_is (subst (λ (w : ℕ). Contains changes (second w) → ⊥) same not) in
          let more = count_own u (second v) changes same in
          let sum = rest.sum in
          record {
            firsts = rest.firsts;
            seconds = 1;
            sum = omega (arith, more, sum, none);
            first_is = count_stays changes (first u) (second v) rest.firsts (λ e. cc) rest.first_is;
            second_is = count_first changes (second u) (second v) (ap second same);
          }
      | inr apart ↦ record {
        firsts = rest.firsts;
        seconds = rest.seconds;
        sum = count_other u (second v) changes apart ∙ rest.sum;
        first_is = count_stays changes (first u) (second v) rest.firsts (λ e. cc) rest.first_is;
        second_is = count_stays changes (second u) (second v) rest.seconds (λ e. apart (ap changed e)) rest.second_is;
      }
    ]

-- what the count of a router's changes says of them
module _ (n : ℕ) (ranks : List ℕ) (changes : List Change) (u : ℕ) (front : AreInFront n ranks changes) where
  counts : IsCounted changes u
  counts = counted (router_times all_old ranks) changes u front.in_turn

  pub none_made : changes_on u (map changed changes) ≡ 0 → Contains changes (first u) → ⊥
  none_made none here = omega (arith, counts.sum, counts.first_is.one here, none)

  pub first_made : changes_on u (map changed changes) ≡ 1 → Contains changes (first u)
  first_made one = elim (cases_eq counts.seconds 1) [
    | inl two ↦ front.halves u (counts.second_is.made two)
    | inr apart ↦ counts.first_is.made (omega (arith, counts.sum, one, counts.second_is.most, apart))
  ]

  pub second_open : changes_on u (map changed changes) ≡ 1 → Contains changes (second u) → ⊥
  second_open one here = omega (arith, counts.sum, one, counts.second_is.one here, counts.first_is.one (front.halves u here))

  pub both_made : changes_on u (map changed changes) ≡ 2 → Contains changes (first u) × Contains changes (second u)
  both_made all = (
    counts.first_is.made (omega (arith, counts.sum, counts.first_is.most, counts.second_is.most, all)),
    counts.second_is.made (omega (arith, counts.sum, counts.first_is.most, counts.second_is.most, all)),
  )

  pub is_none : (Contains changes (first u) → ⊥) → changes_on u (map changed changes) ≡ 0
  is_none absent =
      omega (
        arith,
        counts.sum,
        count_zero changes (first u) counts.firsts counts.first_is absent,
        count_zero changes (second u) counts.seconds counts.second_is (λ here. absent (front.halves u here)),
      )

  pub is_one : Contains changes (first u) → (Contains changes (second u) → ⊥) → changes_on u (map changed changes) ≡ 1
  is_one here absent =
      omega (arith, counts.sum, counts.first_is.one here, count_zero changes (second u) counts.seconds counts.second_is absent)

  pub is_both : Contains changes (first u) → Contains changes (second u) → changes_on u (map changed changes) ≡ 2
  is_both here there = omega (arith, counts.sum, counts.first_is.one here, counts.second_is.one there)

-- ---- how many changes there may be ----

-- each change as a number of its own
abbrev place_of : Change → ℕ
place_of (first u) = 2 * u
place_of (second u) = 2 * u + 1

places_apart : (c d : Change) → c ≢ d → place_of c ≢ place_of d
places_apart c d apart same = grind arith

place_below : (n : ℕ) (c : Change) → changed c < n → place_of c < 2 * n
place_below n c below = grind (arith, common_steps)

distinct_places : (time : Timetable) (changes : List Change) → AllPairs (MayPrecede time) changes → AllPairs (λ u v. u ≢ v) (map place_of changes)
distinct_places time [] pairs = pairs_none (λ u v. u ≢ v)
distinct_places time (c ∷ changes) pairs =
    pairs_more (λ u v. u ≢ v) (place_of c) (map place_of changes)
    (λ k inside.
    let from = Contains-map place_of changes k inside in
    subst (λ (m : ℕ). place_of c ≢ m) from.gives
    (places_apart c from.item (pairs_first (MayPrecede time) c changes pairs from.item from.among).other))
    (distinct_places time changes (pairs_rest (MayPrecede time) c changes pairs))

places_below : (n : ℕ) (changes : List Change) → ((c : Change) → Contains changes c → changed c < n) → All (λ k. k < 2 * n) (map place_of changes)
places_below n changes below k d within =
    let from = Contains-map place_of changes (get_or (map place_of changes) k d) (Contains-get_or (map place_of changes) k d within) in
    subst (λ (m : ℕ). m < 2 * n) from.gives (place_below n from.item (below from.item from.among))

-- changes that begin a run are at most two for each router
pub few_changes : (n : ℕ) (ranks : List ℕ) (changes : List Change) → BeginRun n ranks changes → length changes ≤ 2 * n
few_changes n ranks changes begin =
    let front : AreInFront n ranks changes = front_of_run n ranks changes begin in
    let few =
    length-le_from_distinct (map place_of changes) (2 * n) (distinct_places (router_times all_old ranks) changes front.in_turn)
    (places_below n changes front.below) in
    let long = length-map changes place_of in
    omega (arith, few, long)
