-- The changes of one router among the first ones of a run: none, its first one, or both; and how many of them are kept.
use Rattle.std.proofs.Common.{◌≡◌, ◌≢◌, ◌⊎◌, inl, inr, ℕ, ◌+◌, ◌==◌, Bool, true, false, cond, List, [], ◌∷◌, ◌++◌, length, map, All, AllPairs, Contains}
use Rattle.std.proofs.Common.{refl, sym, ap, ◌∙◌, subst, arith}
use Rattle.std.specs.Prelude.{filter}
use Rattle.std.proofs.lemmas.Bool.Decides.{eqb_tells}
use Rattle.std.proofs.lemmas.List.Elements.{filter-append, filter_passes}
use Rattle.std.proofs.lemmas.List.Kept.{AllPairs-filter}
use Rattle.net_model.proofs.Members.{Contains-cases, Contains-first, Contains-none, Contains-rest}
use Rattle.igp_theory.specs.Changes.{Change, first, second, changed}
use Rattle.igp_theory.specs.Phases.{all_old}
use Rattle.igp_theory.specs.States.{changes_on}
use Rattle.igp_theory.specs.Timetables.{MayPrecede, Timetable, router_times}
use Rattle.igp_theory.proofs.OrderedLists.{pairs_first, pairs_rest}
use Rattle.state_replay.proofs.Fronts.{AreInFront}

-- whether a change is made on router u
abbrev pub on : ℕ → Change → Bool
on u c = changed c == u

-- a change of a router is its first or its second one
one_of : (u : ℕ) (c : Change) → on u c ≡ true → (c ≡ first u) ⊎ (c ≡ second u)
one_of u (first v) is = elim (eqb_tells v u) [
  | inl same ↦ inl (ap first same.1)
  | inr other ↦ absurd (let no : true ≡ false = sym is ∙ other.0 in cc no)
]
one_of u (second v) is = elim (eqb_tells v u) [
  | inl same ↦ inr (ap second same.1)
  | inr other ↦ absurd (let no : true ≡ false = sym is ∙ other.0 in cc no)
]

on_first : (u : ℕ) → on u (first u) ≡ true
on_first u = elim (eqb_tells u u) [ inl same ↦ same.0 | inr other ↦ absurd (other.1 refl) ]

-- an element that passes a test is among those that do
in_filter : (p : Change → Bool) (xs : List Change) (c : Change) → Contains xs c → p c ≡ true → Contains (filter p xs) c
in_filter p [] c among passes = among
in_filter p (x ∷ xs) c among passes = by_test (p x) refl (λ there. in_filter p xs c there passes)
  where
    by_test : (b : Bool) → p x ≡ b → (Contains xs c → Contains (filter p xs) c) → Contains (cond b (x ∷ filter p xs) (filter p xs)) c
    by_test true here later = elim (Contains-cases x xs c among) [
      | inl same ↦ subst (Contains (x ∷ filter p xs)) same (Contains-first x (filter p xs))
      | inr there ↦ Contains-rest x (filter p xs) c (later there)
    ]
    by_test false not later = elim (Contains-cases x xs c among) [
      | inl same ↦ absurd (let no : false ≡ true = sym not ∙ ap p same ∙ passes in cc no)
      | inr there ↦ later there
    ]

from_filter : (p : Change → Bool) (xs : List Change) (c : Change) → Contains (filter p xs) c → Contains xs c
from_filter p [] c among = among
from_filter p (x ∷ xs) c among = by_test (p x) among (λ there. from_filter p xs c there)
  where
    by_test : (b : Bool) → Contains (cond b (x ∷ filter p xs) (filter p xs)) c → (Contains (filter p xs) c → Contains xs c) → Contains (x ∷ xs) c
    by_test true here later = elim (Contains-cases x (filter p xs) c here) [
      | inl same ↦ subst (Contains (x ∷ xs)) same (Contains-first x xs)
      | inr there ↦ Contains-rest x xs c (later there)
    ]
    by_test false there later = Contains-rest x xs c (later there)

-- ---- all changes of a router ----

-- changes are none, the first one of router u, or both
pub data AreOfRouter (u : ℕ) : List Change → Type 0 where
  none : AreOfRouter u []
  begun : AreOfRouter u (first u ∷ [])
  done : AreOfRouter u (first u ∷ second u ∷ [])

module _ (time : Timetable) (u : ℕ) where
  two_firsts : (xs : List Change) (c d : Change) → AllPairs (MayPrecede time) (c ∷ xs) → Contains xs d → c ≡ first u → d ≡ first u → ⊥
  two_firsts xs c d turn among one other = (pairs_first (MayPrecede time) c xs turn d among).other (one ∙ sym other)

  two_seconds : (xs : List Change) (c d : Change) → AllPairs (MayPrecede time) (c ∷ xs) → Contains xs d → c ≡ second u → d ≡ second u → ⊥
  two_seconds xs c d turn among one other = (pairs_first (MayPrecede time) c xs turn d among).other (one ∙ sym other)

  second_first : (xs : List Change) (c d : Change) → AllPairs (MayPrecede time) (c ∷ xs) → Contains xs d → c ≡ second u → d ≡ first u → ⊥
  second_first xs c d turn among one other = (pairs_first (MayPrecede time) c xs turn d among).half u one other

  -- a second one has nothing of its router behind it
  none_behind : (xs : List Change) (c d : Change) → AllPairs (MayPrecede time) (c ∷ xs) → Contains xs d → c ≡ second u → on u d ≡ true → ⊥
  none_behind xs c d turn among one is = elim (one_of u d is) [
    | inl a ↦ second_first xs c d turn among one a
    | inr b ↦ two_seconds xs c d turn among one b
  ]

  -- behind the first one there is its second one at most
  behind_first : (xs : List Change) (c d : Change) → AllPairs (MayPrecede time) (c ∷ xs) → Contains xs d → c ≡ first u → on u d ≡ true → d ≡ second u
  behind_first xs c d turn among one is = elim (one_of u d is) [
    | inl a ↦ absurd (two_firsts xs c d turn among one a)
    | inr b ↦ b
  ]

  of_router : (xs : List Change) → AllPairs (MayPrecede time) xs → All (λ c. on u c ≡ true) xs → (Contains xs (second u) → Contains xs (first u)) →
      AreOfRouter u xs
  of_router [] turn all halves = none
  of_router (c ∷ []) turn all halves = elim (one_of u c (all 0 c (omega arith))) [
    | inl a ↦ subst (λ (x : Change). AreOfRouter u (x ∷ [])) (sym a) begun
    | inr b ↦ absurd (only (halves (subst (Contains (c ∷ [])) b (Contains-first c []))) b)
  ]
    where
      only : Contains (c ∷ []) (first u) → c ≡ second u → ⊥
      only there is = elim (Contains-cases c [] (first u) there) [
        | inl same ↦ let clash : second u ≡ first u = sym is ∙ same in Prim.cc clash
        | inr later ↦ Contains-none (first u) later
      ]
  of_router (c ∷ d ∷ []) turn all halves = elim (one_of u c (all 0 c (omega arith))) [
    | inl a ↦
        let b = behind_first (d ∷ []) c d turn (Contains-first d []) a (all 1 c (omega arith)) in
        subst (λ (x : Change). AreOfRouter u (x ∷ d ∷ [])) (sym a)
        (subst (λ (y : Change). AreOfRouter u (first u ∷ y ∷ [])) (sym b) done)
    | inr b ↦ absurd (none_behind (d ∷ []) c d turn (Contains-first d []) b (all 1 c (omega arith)))
  ]
  of_router (c ∷ d ∷ e ∷ more) turn all halves = elim (one_of u c (all 0 c (omega arith))) [
    | inl a ↦
        let b = behind_first (d ∷ e ∷ more) c d turn (Contains-first d (e ∷ more)) a (all 1 c (omega arith)) in
        absurd (none_behind (e ∷ more) d e (pairs_rest (MayPrecede time) c (d ∷ e ∷ more) turn) (Contains-first e more) b (all 2 c (omega arith)))
    | inr b ↦ absurd (none_behind (d ∷ e ∷ more) c d turn (Contains-first d (e ∷ more)) b (all 1 c (omega arith)))
  ]

-- ---- those that are kept, and the others ----

-- of the changes of router u the ones that are kept, and those behind them
pub data AreParted (u : ℕ) : List Change → List Change → Type 0 where
  none_made : AreParted u [] []
  begun_kept : AreParted u (first u ∷ []) []
  begun_back : AreParted u [] (first u ∷ [])
  done_kept : AreParted u (first u ∷ second u ∷ []) []
  half_back : AreParted u (first u ∷ []) (second u ∷ [])
  done_back : AreParted u [] (first u ∷ second u ∷ [])

parted_of : (u : ℕ) (front back all : List Change) → front ++ back ≡ all → AreOfRouter u all → AreParted u front back
parted_of u [] back all same none = subst (AreParted u []) (sym same) none_made
parted_of u [] back all same begun = subst (AreParted u []) (sym same) begun_back
parted_of u [] back all same done = subst (AreParted u []) (sym same) done_back
parted_of u (c ∷ front) back all same none = absurd (Prim.cc same)
parted_of u (c ∷ []) back all same begun =
    let one : c ≡ first u = cc same in
    let rest : back ≡ [] = cc same in
    subst (λ (x : Change). AreParted u (x ∷ []) back) (sym one) (subst (AreParted u (first u ∷ [])) (sym rest) begun_kept)
parted_of u (c ∷ d ∷ front) back all same begun = absurd (let none : d ∷ front ++ back ≡ [] = cc same in Prim.cc none)
parted_of u (c ∷ []) back all same done =
    let one : c ≡ first u = cc same in
    let rest : back ≡ second u ∷ [] = cc same in
    subst (λ (x : Change). AreParted u (x ∷ []) back) (sym one) (subst (AreParted u (first u ∷ [])) (sym rest) half_back)
parted_of u (c ∷ d ∷ []) back all same done =
    let one : c ≡ first u = cc same in
    let two : d ≡ second u = cc same in
    let rest : back ≡ [] = cc same in
    subst (λ (x : Change). AreParted u (x ∷ d ∷ []) back) (sym one)
    (subst (λ (y : Change). AreParted u (first u ∷ y ∷ []) back) (sym two) (subst (AreParted u (first u ∷ second u ∷ [])) (sym rest) done_kept))
parted_of u (c ∷ d ∷ e ∷ front) back all same done = absurd (let none : e ∷ front ++ back ≡ [] = cc same in Prim.cc none)

pub are_parted : (n : ℕ) (ranks : List ℕ) (front back changes : List Change) (u : ℕ) → front ++ back ≡ changes → AreInFront n ranks changes →
    AreParted u (filter (on u) front) (filter (on u) back)
are_parted n ranks front back changes u same is =
    let time = router_times all_old ranks in
    let ours = filter (on u) changes in
    parted_of u (filter (on u) front) (filter (on u) back) ours (sym (filter-append (on u) front back) ∙ ap (filter (on u)) same)
    (of_router time u ours (AllPairs-filter (MayPrecede time) (on u) changes is.in_turn) (filter_passes (on u) changes)
    (λ there. in_filter (on u) changes (first u) (is.halves u (from_filter (on u) changes (second u) there)) (on_first u)))

-- as many are counted as there are
pub counted_on : (u : ℕ) (xs : List Change) → changes_on u (map changed xs) ≡ length (filter (on u) xs)
counted_on u [] = refl
counted_on u (c ∷ xs) = by_test (eqb_tells u (changed c)) (eqb_tells (changed c) u) (counted_on u xs)
  where
    by_test : (((u == changed c) ≡ true) × (u ≡ changed c)) ⊎ (((u == changed c) ≡ false) × (u ≢ changed c)) →
        (((changed c == u) ≡ true) × (changed c ≡ u)) ⊎ (((changed c == u) ≡ false) × (changed c ≢ u)) →
        changes_on u (map changed xs) ≡ length (filter (on u) xs) →
        cond (u == changed c) 1 0 + changes_on u (map changed xs) ≡ length (cond (changed c == u) (c ∷ filter (on u) xs) (filter (on u) xs))
    by_test (inl one) (inl other) rest =
        ap (λ b. cond b 1 0 + changes_on u (map changed xs)) one.0 ∙ ap (λ n. 1 + n) rest
        ∙ (let e : 1 + length (filter (on u) xs) ≡ length (c ∷ filter (on u) xs) = omega arith in e)
        ∙ sym (ap (λ b. length (cond b (c ∷ filter (on u) xs) (filter (on u) xs))) other.0)
    by_test (inr one) (inr other) rest =
        ap (λ b. cond b 1 0 + changes_on u (map changed xs)) one.0
        ∙ (let e : 0 + changes_on u (map changed xs) ≡ changes_on u (map changed xs) = omega arith in e) ∙ rest
        ∙ sym (ap (λ b. length (cond b (c ∷ filter (on u) xs) (filter (on u) xs))) other.0)
    by_test (inl one) (inr other) rest = absurd (other.1 (sym one.1))
    by_test (inr one) (inl other) rest = absurd (one.1 (sym other.1))
