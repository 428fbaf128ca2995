-- How a ring of distinct numbers is turned so that its lowest is first.
use Rattle.std.proofs.Common.{◌≡◌, ℕ, ◌≤◌, inl, inr, List, [], ◌∷◌, ◌++◌, Contains, sym, ap, ◌∙◌, subst, arith}
use Rattle.std.specs.List.{All}
use Rattle.std.proofs.lemmas.List.{append-nil}
use Rattle.std.proofs.lemmas.List.Elements.{All-cons, All-contains, Contains-append_left, Contains-append_right, Contains-append_cases}
use Rattle.order_core.specs.Orders.{AreDistinct}
use Rattle.order_core.specs.Rings.{IsTurned}
use Rattle.order_core.proofs.DistinctLists.{contains_middle, same_split}

-- where a ring is split at its lowest number, and how it is turned there
record TurnsAt (ring turned : List ℕ) : Type 0 where
  lowest : ℕ
  before : List ℕ
  after : List ℕ
  stands : ring ≡ before ++ lowest ∷ after
  is : turned ≡ (lowest ∷ after) ++ before
  least : (v : ℕ) → Contains ring v → lowest ≤ v

contains_turned : (front back : List ℕ) (v : ℕ) → Contains (front ++ back) v → Contains (back ++ front) v
contains_turned front back v inside =
    elim (Contains-append_cases front back v inside) [
      | inl in_front ↦ Contains-append_right back front v in_front
      | inr in_back ↦ Contains-append_left back front v in_back
    ]

least_of_turned : (ring turned front back : List ℕ) (lowest : ℕ) (others : List ℕ) → ring ≡ front ++ back →
    turned ≡ back ++ front → turned ≡ lowest ∷ others → All (λ v. lowest ≤ v) others →
    (v : ℕ) → Contains ring v → lowest ≤ v
least_of_turned ring turned front back lowest others found turns first least v inside =
    All-contains (λ (w : ℕ). lowest ≤ w) (lowest ∷ others) v
    (All-cons (λ (w : ℕ). lowest ≤ w) lowest others (omega arith) least)
    (subst (λ (l : List ℕ). Contains l v) (sym turns ∙ first)
    (contains_turned front back v (subst (λ (l : List ℕ). Contains l v) found inside)))

turns_at : (ring turned front back : List ℕ) (lowest : ℕ) (others : List ℕ) → ring ≡ front ++ back →
    turned ≡ back ++ front → turned ≡ lowest ∷ others → All (λ v. lowest ≤ v) others → TurnsAt ring turned
turns_at ring turned front [] lowest others found turns first least = record {
  lowest = lowest;
  before = [];
  after = others;
  stands = found ∙ append-nil front ∙ sym turns ∙ first;
  is = first ∙ sym (append-nil (lowest ∷ others));
  least = least_of_turned ring turned front [] lowest others found turns first least;
}
turns_at ring turned front (x ∷ back) lowest others found turns first least =
    let same : x ≡ lowest = cc in
    record {
      lowest = lowest;
      before = front;
      after = back;
      stands = found ∙ ap (λ (v : ℕ). front ++ v ∷ back) same;
      is = turns ∙ ap (λ (v : ℕ). (v ∷ back) ++ front) same;
      least = least_of_turned ring turned front (x ∷ back) lowest others found turns first least;
    }

same_lowest : {ring one other : List ℕ} (first : TurnsAt ring one) (second : TurnsAt ring other) →
    first.lowest ≡ second.lowest
same_lowest {ring} first second =
    let up : first.lowest ≤ second.lowest = first.least second.lowest
    (subst (λ (l : List ℕ). Contains l second.lowest) (sym second.stands) (contains_middle second.before second.lowest second.after)) in
    let down : second.lowest ≤ first.lowest = second.least first.lowest
    (subst (λ (l : List ℕ). Contains l first.lowest) (sym first.stands) (contains_middle first.before first.lowest first.after)) in
    omega arith

same_turns_at : {ring one other : List ℕ} → AreDistinct ring → TurnsAt ring one → TurnsAt ring other → one ≡ other
same_turns_at {ring} {one} {other} distinct first second =
    let lowest : first.lowest ≡ second.lowest = same_lowest first second in
    let second_stands : ring ≡ second.before ++ first.lowest ∷ second.after =
    second.stands ∙ ap (λ (v : ℕ). second.before ++ v ∷ second.after) (sym lowest) in
    let place = same_split first.before first.lowest first.after second.before second.after
    (subst AreDistinct first.stands distinct) (sym first.stands ∙ second_stands) in
    first.is
    ∙ ap (λ (v : ℕ). (v ∷ first.after) ++ first.before) lowest
    ∙ ap (λ (l : List ℕ). (second.lowest ∷ l) ++ first.before) place.1
    ∙ ap (λ (l : List ℕ). (second.lowest ∷ second.after) ++ l) place.0
    ∙ sym second.is

turned_at : {ring turned : List ℕ} → IsTurned ring turned → TurnsAt ring turned
turned_at {ring} {turned} is = turns_at ring turned is.front is.back is.lowest is.others is.found is.turned_is is.first is.least

-- a ring of distinct numbers is turned in one way
pub same_turned : {ring one other : List ℕ} → AreDistinct ring → IsTurned ring one → IsTurned ring other → one ≡ other
same_turned distinct one other = same_turns_at distinct (turned_at one) (turned_at other)
