-- Walks over the pairs from one router, by the links.
use Rattle.std.proofs.lemmas.Grind.{common_steps}
use Rattle.std.proofs.Common.{◌≡◌, ◌≢◌, ℕ, zero, suc, ◌+◌, ◌-◌, ◌<◌, ◌≤◌, ◌⊎◌, inl, inr, Bool, true, false, eqb, cond}
use Rattle.std.proofs.Common.{List, [], ◌∷◌, ◌++◌, length, take, drop, Option, Some, None, arith, subst, sym, refl, ap, ◌∙◌, drop-cons}
use Rattle.std.proofs.Common.{length-drop}
use Rattle.std.specs.List.{Contains}
use Rattle.std.specs.Option.{IfSome, IfNone}
use Rattle.std.proofs.lemmas.List.{take-append-drop, length-take-le, get_or-drop, get_or_default}
use Rattle.std.proofs.lemmas.List.Elements.{Contains-get_or}
use Rattle.std.proofs.lemmas.Bool.{cases_lt, eq-eqb, eqb-true, eqb-false}
use Rattle.link_trail.specs.Lists.{IsNextNode, first_node, list_at}
use Rattle.order_core.specs.Pairs.{Pair}
use Rattle.order_core.specs.Marks.{IsMarked}
use Rattle.precedence_set.specs.Successors.{numbers_from, AreSuccessors}
use Rattle.precedence_set.specs.steps.Walking.{Walk, pair_at, walk, IsFirstFrom, IsKnownUpTo}

pub numbers_from-append : (u s : ℕ) (xs ys : List Pair) → numbers_from u s (xs ++ ys) ≡ numbers_from u s xs ++ numbers_from u (s + length xs) ys
numbers_from-append u s [] ys = let e : s + 0 ≡ s = omega arith in ap (λ (k : ℕ). numbers_from u k ys) (sym e)
numbers_from-append u s (x ∷ xs) ys =
    let e : suc s + length xs ≡ s + suc (length xs) = omega arith in
    subst (λ (k : ℕ). numbers_from u s ((x ∷ xs) ++ ys) ≡ numbers_from u s (x ∷ xs) ++ numbers_from u k ys) e
    (by_test (eqb x.0 u) (numbers_from u (suc s) (xs ++ ys)) (numbers_from u (suc s) xs) (numbers_from u (suc s + length xs) ys)
    (numbers_from-append u (suc s) xs ys))
  where
    by_test : (b : Bool) (a c d : List ℕ) → a ≡ c ++ d → cond b (s ∷ a) a ≡ cond b (s ∷ c) c ++ d
    by_test true a c d e = ap (λ (zs : List ℕ). s ∷ zs) e
    by_test false a c d e = e

-- every number is that of a pair
pub numbers_from-below : (u s : ℕ) (pairs : List Pair) (i : ℕ) → Contains (numbers_from u s pairs) i → i < s + length pairs
numbers_from-below u s [] i has = absurd (omega (arith, has.1))
numbers_from-below u s (p ∷ pairs) i has = by_test (eqb p.0 u) (numbers_from u (suc s) pairs) (numbers_from-below u (suc s) pairs i) has
  where
    by_test : (b : Bool) (ns : List ℕ) → (Contains ns i → i < suc s + length pairs) → Contains (cond b (s ∷ ns) ns) i → i < s + suc (length pairs)
    by_test false ns rest has = omega (arith, rest has)
    by_test true ns rest (zero, lt, e) = omega (arith, e)
    by_test true ns rest (suc k, lt, e) = omega (arith, rest (k, omega (arith, lt), e))

IsFirstFrom-earlier : (pairs : List Pair) (u s : ℕ) (r : Option ℕ) → (pair_at pairs s).0 ≢ u → IsFirstFrom pairs u (suc s) r →
    IsFirstFrom pairs u s r
IsFirstFrom-earlier pairs u s r other first = grind (arith, common_steps, cases_lt, first)

first_from : (pairs : List Pair) (u s : ℕ) (ys : List Pair) → ((j : ℕ) → j < length ys → pair_at pairs (s + j) ≡ pair_at ys j) →
    s + length ys ≡ length pairs → IsFirstFrom pairs u s (first_node (numbers_from u s ys))
first_from pairs u s [] each whole = λ j le lt. absurd (omega (arith, le, lt, whole))
first_from pairs u s (p ∷ ys) each whole =
    by_test (eqb p.0 u) refl (first_from pairs u (suc s) ys (λ j lt. let e : suc s + j ≡ s + suc j = omega arith in
    subst (λ (k : ℕ). pair_at pairs k ≡ pair_at ys j) (sym e) (each (suc j) (omega (arith, lt)))) (omega (arith, whole)))
  where
    here : pair_at pairs s ≡ p
    here = let e : s + 0 ≡ s = omega arith in subst (λ (k : ℕ). pair_at pairs k ≡ p) e (each 0 (omega arith))

    by_test : (b : Bool) → eqb p.0 u ≡ b → IsFirstFrom pairs u (suc s) (first_node (numbers_from u (suc s) ys)) →
        IsFirstFrom pairs u s (first_node (cond b (s ∷ numbers_from u (suc s) ys) (numbers_from u (suc s) ys)))
    by_test true e rest = (omega arith, omega (arith, whole), ap (λ (q : Pair). q.0) here ∙ eqb-true p.0 u e, λ j le lt. absurd (omega (arith, le, lt)))
    by_test false e rest = IsFirstFrom-earlier pairs u s _ (subst (λ (q : Pair). q.0 ≢ u) (sym here) (eqb-false p.0 u e)) rest

-- the first node of a router's list is the number of the first pair from it
pub IsFirstFrom-first : (n : ℕ) (pairs : List Pair) (lists : List (List ℕ)) (x : ℕ) (r : Option ℕ) → AreSuccessors n pairs lists → x < n →
    r ≡ first_node (list_at lists x) → IsFirstFrom pairs x 0 r
IsFirstFrom-first n pairs lists x r successors x_in e =
    let at : first_node (numbers_from x 0 pairs) ≡ r = ap (λ (xs : List ℕ). first_node xs) (sym (successors.each x x_in)) ∙ sym e in
    subst (λ (o : Option ℕ). IsFirstFrom pairs x 0 o) at (first_from pairs x 0 pairs (λ j lt. let z : 0 + j ≡ j = omega arith in
    ap (λ (k : ℕ). pair_at pairs k) z) (omega arith))

-- the node after a pair's number is the number of the next pair from the same router
pub IsFirstFrom-next : (n : ℕ) (pairs : List Pair) (lists : List (List ℕ)) (x i : ℕ) (r : Option ℕ) → AreSuccessors n pairs lists → x < n →
    i < length pairs → (pair_at pairs i).0 ≡ x → IsNextNode lists i r → IsFirstFrom pairs x (suc i) r
IsFirstFrom-next n pairs lists x i r successors x_in i_in from next =
    let long : 0 + length (take i pairs) ≡ i = omega (arith, length-take-le i pairs (omega (arith, i_in))) in
    let e₁ : numbers_from x 0 pairs ≡ numbers_from x 0 (take i pairs) ++ numbers_from x (0 + length (take i pairs)) (drop i pairs) =
    subst (λ (xs : List Pair). numbers_from x 0 xs ≡ numbers_from x 0 (take i pairs) ++ numbers_from x (0 + length (take i pairs)) (drop i pairs))
    (take-append-drop i pairs) (numbers_from-append x 0 (take i pairs) (drop i pairs)) in
    let e₂ : drop i pairs ≡ pair_at pairs i ∷ drop (suc i) pairs = drop-cons pairs i (0, 0) i_in in
    let e₃ : numbers_from x i (pair_at pairs i ∷ drop (suc i) pairs) ≡ i ∷ numbers_from x (suc i) (drop (suc i) pairs) =
    ap (λ (b : Bool). cond b (i ∷ numbers_from x (suc i) (drop (suc i) pairs)) (numbers_from x (suc i) (drop (suc i) pairs)))
    (eq-eqb (pair_at pairs i).0 x from) in
    let e₄ : numbers_from x (0 + length (take i pairs)) (drop i pairs) ≡ i ∷ numbers_from x (suc i) (drop (suc i) pairs) =
    ap (λ (k : ℕ). numbers_from x k (drop i pairs)) long ∙ ap (λ (xs : List Pair). numbers_from x i xs) e₂ ∙ e₃ in
    let parts : list_at lists x ≡ numbers_from x 0 (take i pairs) ++ i ∷ numbers_from x (suc i) (drop (suc i) pairs) =
    successors.each x x_in ∙ e₁ ∙ ap (λ (xs : List ℕ). numbers_from x 0 (take i pairs) ++ xs) e₄ in
    let e = next.linked x _ _ (omega (arith, x_in, successors.count)) parts in
    subst (λ (o : Option ℕ). IsFirstFrom pairs x (suc i) o) (sym e)
    (first_from pairs x (suc i) (drop (suc i) pairs) (λ j lt. sym (get_or-drop (suc i) pairs j (0, 0))) (omega (arith, length-drop (suc i) pairs, i_in)))

-- P holds of each router where a pair leads that the walk has passed
pub record HasPassed (w : Walk) (P : ℕ → Type 0) : Type 0 where
  pub start : ℕ
  pub first : IsFirstFrom w.pairs w.from start w.at
  pub passed : (j : ℕ) → j < start → j < length w.pairs → (pair_at w.pairs j).0 ≡ w.from → P (pair_at w.pairs j).1

pub HasPassed-begin : (pairs : List Pair) (x : ℕ) (at : Option ℕ) (P : ℕ → Type 0) → IsFirstFrom pairs x 0 at → HasPassed (walk pairs x at) P
HasPassed-begin pairs x at P first = record { start = 0; first = first; passed = λ j lt. absurd (omega (arith, lt)) }

pub HasPassed-step : (pairs : List Pair) (x i : ℕ) (next : Option ℕ) (P Q : ℕ → Type 0) → HasPassed (walk pairs x (Some i)) P →
    IsFirstFrom pairs x (suc i) next → ((v : ℕ) → P v → Q v) → Q (pair_at pairs i).1 → HasPassed (walk pairs x next) Q
HasPassed-step pairs x i next P Q has first kept here = grind (arith, common_steps, cases_lt)

-- the pair that it has come to is one from the router
pub HasPassed-here : (pairs : List Pair) (x i v : ℕ) (P : ℕ → Type 0) → HasPassed (walk pairs x (Some i)) P → v ≡ (pair_at pairs i).1 →
    Contains pairs (x, v)
HasPassed-here pairs x i v P has is =
    let pair : pair_at pairs i ≡ (x, v) = ap (λ (a : ℕ). (a, (pair_at pairs i).1)) has.first.2 ∙ ap (λ (b : ℕ). (x, b)) (sym is) in
    subst (λ (p : Pair). Contains pairs p) pair (Contains-get_or pairs i (0, 0) has.first.1)

-- at its end P holds of all routers that are assumed after x
pub HasPassed-end : (pairs : List Pair) (x : ℕ) (at : Option ℕ) (P : ℕ → Type 0) → HasPassed (walk pairs x at) P → ((i : ℕ) → at ≡ Some i → ⊥) →
    (v : ℕ) → Contains pairs (x, v) → P v
HasPassed-end pairs x (Some i) P has none v is = absurd (none i refl)
HasPassed-end pairs x None P has none v is =
    let e : pair_at pairs is.0 ≡ (x, v) = get_or_default pairs is.0 (0, 0) (x, v) is.1 ∙ is.2 in
    let from : (pair_at pairs is.0).0 ≡ x = ap (λ (p : Pair). p.0) e in
    elim (cases_lt is.0 has.start) [
      | inl before ↦ subst (λ (y : ℕ). P y) (ap (λ (p : Pair). p.1) e) (has.passed is.0 before is.1 from)
      | inr ge ↦ absurd (has.first is.0 ge is.1 from)
    ]

-- what a walk has found, as far as it has come
pub record IsWalked (w : Walk) (marks : List Bool) (lowest : Option ℕ) : Type 0 where
  pub walked : HasPassed w (λ v. IsMarked marks v → IsKnownUpTo lowest v)
  pub found : (v : ℕ) → lowest ≡ Some v → Contains w.pairs (w.from, v) × IsMarked marks v

pub IsWalked-begin : (pairs : List Pair) (marks : List Bool) (x : ℕ) (at : Option ℕ) → IsFirstFrom pairs x 0 at → IsWalked (walk pairs x at) marks None
IsWalked-begin pairs marks x at first = grind (arith, common_steps)

pub IsWalked-step : (pairs : List Pair) (marks : List Bool) (x i : ℕ) (lowest next result : Option ℕ) → IsWalked (walk pairs x (Some i)) marks lowest →
    IsFirstFrom pairs x (suc i) next → ((w : ℕ) → result ≡ Some w → (lowest ≡ Some w) ⊎
    ((w ≡ (pair_at pairs i).1) × IsMarked marks (pair_at pairs i).1)) → ((q : ℕ) → IsKnownUpTo lowest q → IsKnownUpTo result q) →
    (IsMarked marks (pair_at pairs i).1 → IsKnownUpTo result (pair_at pairs i).1) → IsWalked (walk pairs x next) marks result
IsWalked-step pairs marks x i lowest next result is first found no_higher at_most = record {
  walked = HasPassed-step pairs x i next (λ v. IsMarked marks v → IsKnownUpTo lowest v) (λ v. IsMarked marks v → IsKnownUpTo result v) is.walked first
      (λ v known marked. no_higher v (known marked)) at_most;
  found = λ v e. elim (found v e) [
    | inl old ↦ is.found v old
    | inr new ↦ (
      HasPassed-here pairs x i v (λ v. IsMarked marks v → IsKnownUpTo lowest v) is.walked new.0,
      subst (λ (b : ℕ). IsMarked marks b) (sym new.0) new.1,
    )
  ];
}

-- how many pairs are left to walk over
abbrev pub left_after : List Pair → Option ℕ → ℕ
left_after pairs None = 0
left_after pairs (Some i) = suc (length pairs) - i

pub left_after-smaller : (pairs : List Pair) (x i : ℕ) (next : Option ℕ) → i < length pairs → IsFirstFrom pairs x (suc i) next →
    left_after pairs next < left_after pairs (Some i)
left_after-smaller pairs x i next i_in first = grind (arith, common_steps, first)

-- what the walk has found is a marked router after x
pub lowest-after : (w : Walk) (marks : List Bool) (lowest : Option ℕ) → IsWalked w marks lowest → IfSome lowest (λ v. Contains w.pairs (w.from, v))
lowest-after w marks None is = tt
lowest-after w marks (Some v) is = (is.found v refl).0

pub lowest-marked : (w : Walk) (marks : List Bool) (lowest : Option ℕ) → IsWalked w marks lowest → IfSome lowest (λ v. IsMarked marks v)
lowest-marked w marks None is = tt
lowest-marked w marks (Some v) is = (is.found v refl).1

-- in the end it is the lowest one, and there is none where nothing was found
pub lowest-lowest : (pairs : List Pair) (marks : List Bool) (x : ℕ) (at lowest : Option ℕ) → IsWalked (walk pairs x at) marks lowest →
    ((i : ℕ) → at ≡ Some i → ⊥) → IfSome lowest (λ w. (q : ℕ) → Contains pairs (x, q) → IsMarked marks q → w ≤ q)
lowest-lowest pairs marks x at None is none = tt
lowest-lowest pairs marks x at (Some w) is none = HasPassed-end pairs x at (λ v. IsMarked marks v → w ≤ v) is.walked none

pub lowest-none : (pairs : List Pair) (marks : List Bool) (x : ℕ) (at lowest : Option ℕ) → IsWalked (walk pairs x at) marks lowest →
    ((i : ℕ) → at ≡ Some i → ⊥) → IfNone lowest ((q : ℕ) → Contains pairs (x, q) → ¬ IsMarked marks q)
lowest-none pairs marks x at None is none = HasPassed-end pairs x at (λ v. ¬ IsMarked marks v) is.walked none
lowest-none pairs marks x at (Some w) is none = tt
