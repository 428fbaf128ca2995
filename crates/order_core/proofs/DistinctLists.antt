-- Lists of distinct numbers: where a number stands in one, how long they may be, and what they contain.
use Rattle.std.proofs.lemmas.Grind.{common_steps}
use Rattle.std.proofs.Common.{◌≡◌, ◌≢◌, ℕ, suc, ◌<◌, ◌≤◌, Bool, List, [], ◌∷◌, ◌++◌, Contains, length, get_or, true}
use Rattle.std.proofs.Common.{false, eqb, arith, subst, sym, refl, ap, ◌∙◌}
use Rattle.std.specs.List.{list_any, All, AllPairs}
use Rattle.std.specs.Cmp.{nat_eq_equiv}
use Rattle.std.proofs.lemmas.Map.Steps.{length-le_from_distinct_below}
use Rattle.std.proofs.lemmas.Map.Made.{IsDistinct-from_AllPairs}
use Rattle.std.proofs.lemmas.Map.Views.{Contains-from_any, list_any-from_Contains}
use Rattle.std.proofs.lemmas.Bool.{eqb-true, false≢true}
use Rattle.std.proofs.lemmas.Bool.Decides.{Decides-eqb}
use Rattle.std.proofs.lemmas.List.{get_or_default, append_assoc}
use Rattle.std.proofs.lemmas.List.Elements.{All-contains, All-cons, Contains-get_or, Contains-append_right}
use Rattle.order_core.specs.Orders.{AreDistinct}

-- Where a number stands

rest_distinct : (x : ℕ) (xs : List ℕ) → AreDistinct (x ∷ xs) → AreDistinct xs
rest_distinct x xs distinct i j d before within = distinct (suc i) (suc j) d (omega arith) (omega arith)

-- the back of a list of distinct numbers is distinct
pub back_distinct : (front back : List ℕ) → AreDistinct (front ++ back) → AreDistinct back
back_distinct [] back distinct = distinct
back_distinct (x ∷ front) back distinct = back_distinct front back (rest_distinct x (front ++ back) distinct)

first_not_in_rest : (x : ℕ) (xs : List ℕ) → AreDistinct (x ∷ xs) → Contains xs x → ⊥
first_not_in_rest x xs distinct inside =
    All-contains (λ v. x ≢ v) xs x (λ k d within. distinct 0 (suc k) d (omega arith) (omega arith)) inside refl

pub contains_middle : (before : List ℕ) (x : ℕ) (after : List ℕ) → Contains (before ++ x ∷ after) x
contains_middle before x after = Contains-append_right before (x ∷ after) x (0, omega arith, refl)

-- a list with a number at two places isn't one of distinct numbers
pub twice_not_distinct : (before : List ℕ) (x : ℕ) (between after : List ℕ) →
    AreDistinct ((before ++ x ∷ between) ++ x ∷ after) → ⊥
twice_not_distinct before x between after distinct =
    first_not_in_rest x (between ++ x ∷ after)
    (back_distinct before (x ∷ (between ++ x ∷ after)) (subst AreDistinct (append_assoc before (x ∷ between) (x ∷ after)) distinct))
    (contains_middle between x after)

-- a list of distinct numbers is split at a number in one way
pub same_split : (before : List ℕ) (x : ℕ) (after others rest : List ℕ) → AreDistinct (before ++ x ∷ after) →
    before ++ x ∷ after ≡ others ++ x ∷ rest → (before ≡ others) × (after ≡ rest)
same_split [] x after [] rest distinct same = (refl, cc)
same_split [] x after (y ∷ others) rest distinct same =
    let is : others ++ x ∷ rest ≡ after = cc in
    absurd (first_not_in_rest x after distinct (subst (λ (l : List ℕ). Contains l x) is (contains_middle others x rest)))
same_split (y ∷ before) x after [] rest distinct same =
    let is : x ≡ y = cc in
    absurd (first_not_in_rest y (before ++ x ∷ after) distinct
    (subst (λ (v : ℕ). Contains (before ++ x ∷ after) v) is (contains_middle before x after)))
same_split (y ∷ before) x after (z ∷ others) rest distinct same =
    let first : y ≡ z = cc in
    let tails : before ++ x ∷ after ≡ others ++ x ∷ rest = cc in
    let place = same_split before x after others rest (rest_distinct y (before ++ x ∷ after) distinct) tails in
    (ap (λ (v : ℕ). v ∷ before) first ∙ ap (λ (l : List ℕ). z ∷ l) place.0, place.1)

-- What a list of distinct numbers contains

-- one more element in front that differs from all the others
pub AllPairs-cons : {X : Type 0} (R : X → X → Type 0) (x : X) (xs : List X) → ((k : ℕ) (d : X) → k < length xs → R x (get_or xs k d)) →
    AllPairs R xs → AllPairs R (x ∷ xs)
AllPairs-cons R x xs first rest it_5 it_6 d lt it_9 = grind (arith, common_steps)

-- distinct numbers below n are at most n
pub length-le_from_distinct : (xs : List ℕ) (n : ℕ) → AllPairs (λ u v. u ≢ v) xs → All (λ u. u < n) xs → length xs ≤ n
length-le_from_distinct xs n distinct below =
    length-le_from_distinct_below xs n (IsDistinct-from_AllPairs Decides-eqb xs distinct)
    (λ q t. All-contains (λ u. u < n) xs q below (Contains-from_any eqb-true q xs t))

-- the place of an element
pub place_from_Contains : (xs : List ℕ) (x : ℕ) → Contains xs x → (k : ℕ) × (k < length xs) × (get_or xs k 0 ≡ x)
place_from_Contains xs x has = (has.0, has.1, get_or_default xs has.0 0 x has.1 ∙ has.2)

-- n distinct numbers below n are all of them
pub Contains-from_distinct : (xs : List ℕ) (n : ℕ) → AllPairs (λ u v. u ≢ v) xs → All (λ u. u < n) xs → length xs ≡ n → (u : ℕ) →
    u < n → Contains xs u
Contains-from_distinct xs n distinct below whole u lt = by_test (list_any (eqb u) xs) refl
  where
    apart : list_any (eqb u) xs ≡ false → (k : ℕ) (d : ℕ) → k < length xs → u ≢ get_or xs k d
    apart missing k d in' same =
        false≢true (sym missing ∙ list_any-from_Contains nat_eq_equiv u xs (subst (λ (x : ℕ). Contains xs x) (sym same) (Contains-get_or xs k d in')))

    by_test : (b : Bool) → list_any (eqb u) xs ≡ b → Contains xs u
    by_test true found = Contains-from_any eqb-true u xs found
    by_test false missing =
        absurd (omega (
          arith,
          whole,
          length-le_from_distinct (u ∷ xs) n (AllPairs-cons (λ a b. a ≢ b) u xs (apart missing) distinct) (All-cons
              (λ a. a < n) u xs lt below),
        ))
