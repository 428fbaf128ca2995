-- The links at each mark: once a pair more is linked, and once pairs are taken back.
use Rattle.std.proofs.lemmas.Grind.{common_steps}
use Rattle.std.proofs.Common.{◌≡◌, ℕ, ◌+◌, ◌<◌, ◌≤◌, inl, inr, List, [], ◌∷◌, ◌++◌, length, get_or, set, take}
use Rattle.std.proofs.Common.{arith, subst, sym, ap, ◌∙◌}
use Rattle.std.specs.List.{Contains}
use Rattle.std.proofs.Math.Seq.{get_or-append_seam}
use Rattle.std.proofs.lemmas.List.{append-nil, get_or_append_left, get_or_default, get_or_past, get_or-take, length-take-le, length_push, take_more_set}
use Rattle.std.proofs.lemmas.List.{take-set-le}
use Rattle.std.proofs.lemmas.Bool.{cases_lt}
use Rattle.std.proofs.lemmas.Bool.Decides.{eqb_tells}
use Rattle.link_trail.specs.Lists.{LinkedLists, IsFree, linked, lists_at_mark}
use Rattle.link_trail.proofs.ListLemmas.{length-linked, linked-at, linked-other}
use Rattle.order_core.specs.Pairs.{Pair}
use Rattle.precedence_set.specs.Successors.{AreSuccessors}
use Rattle.precedence_set.proofs.SuccessorFacts.{numbers_from-append, numbers_from-below}

-- at each mark up to this one the links held the successors by the pairs so far
abbrev pub AreMarked : ℕ → List Pair → ℕ → LinkedLists → Type 0
AreMarked n items count links = (i : ℕ) → i ≤ count → AreSuccessors n (take i items) (lists_at_mark links i)

-- what the links hold now
pub AreMarked-now : (n : ℕ) (items : List Pair) (count : ℕ) (links : LinkedLists) → AreMarked n items count links → length links.trail ≡ count →
    AreSuccessors n (take count items) links.lists
AreMarked-now n items count links marked moves =
    subst (λ (ls : List (List ℕ)). AreSuccessors n (take count items) ls) (get_or_past links.trail count links.lists (omega (arith, moves)))
    (marked count (omega arith))

pub AreMarked-same : (n : ℕ) (items items' : List Pair) (count : ℕ) (links links' : LinkedLists) → AreMarked n items count links →
    links'.lists ≡ links.lists → links'.trail ≡ links.trail → ((i : ℕ) → i ≤ count → take i items ≡ take i items') →
    AreMarked n items' count links'
AreMarked-same n items items' count links links' marked lists trail same = grind (arith, common_steps)

-- once moves are taken back
pub AreMarked-undone : (n : ℕ) (items : List Pair) (count mark : ℕ) (links links' : LinkedLists) → AreMarked n items count links →
    length links.trail ≡ count → mark ≤ count → links'.lists ≡ lists_at_mark links mark → links'.trail ≡ take mark links.trail →
    AreMarked n items mark links'
AreMarked-undone n items count mark links links' marked moves le lists trail = λ i i_le.
    let e₁ : lists_at_mark links' i ≡ get_or (take mark links.trail) i (lists_at_mark links mark) = cc (lists, trail) in
    let long : length (take mark links.trail) ≡ mark = length-take-le mark links.trail (omega (arith, moves, le)) in
    let e₂ : get_or (take mark links.trail) i (lists_at_mark links mark) ≡ lists_at_mark links i = elim (cases_lt i mark) [
      | inl lt ↦ get_or-take mark links.trail i (lists_at_mark links mark) lt ∙ get_or_default links.trail i (lists_at_mark links mark) links.lists
          (omega (arith, lt, le, moves))
      | inr ge ↦
          let same : mark ≡ i = omega (arith, ge, i_le) in
          get_or_past (take mark links.trail) i (lists_at_mark links mark) (omega (arith, long, ge)) ∙ ap (λ (k : ℕ). lists_at_mark links k) same
    ] in
    subst (λ (ls : List (List ℕ)). AreSuccessors n (take i items) ls) (sym (e₁ ∙ e₂)) (marked i (omega (arith, i_le, le)))

-- with one pair more, and its number at the end of its router's list
AreSuccessors-push : (n : ℕ) (pairs : List Pair) (lists : List (List ℕ)) (u v : ℕ) → AreSuccessors n pairs lists → u < n →
    AreSuccessors n (pairs ++ (u, v) ∷ []) (linked lists u (length pairs))
AreSuccessors-push n pairs lists u v successors u_in =
    grind (arith, common_steps, append-nil, eqb_tells, length-linked, linked-at, linked-other, numbers_from-append)

-- once one more pair is linked
pub AreMarked-linked : (n : ℕ) (items : List Pair) (count u v : ℕ) (links links' : LinkedLists) → AreMarked n items count links →
    length links.trail ≡ count → count < length items → u < n → links'.lists ≡ linked links.lists u count →
    links'.trail ≡ links.trail ++ links.lists ∷ [] → AreMarked n (set items count (u, v)) (count + 1) links'
AreMarked-linked n items count u v links links' marked moves in' u_in lists trail = λ i le. elim (cases_lt count i) [
  | inl after ↦
      let last : count + 1 ≡ i = omega (arith, after, le) in
      let long : length (take count items) ≡ count = length-take-le count items (omega (arith, in')) in
      let now = AreMarked-now n items count links marked moves in
      let pushed = AreSuccessors-push n (take count items) links.lists u v now u_in in
      let ls : linked links.lists u (length (take count items)) ≡ lists_at_mark links' (count + 1) =
      ap (λ (k : ℕ). linked links.lists u k) long ∙ sym lists
      ∙ sym (get_or_past links'.trail (count + 1) links'.lists (omega (
        arith,
        moves,
        length_push links.trail links.lists,
        ap (λ (t : List (List (List ℕ))). length t) trail,
      ))) in
      subst (λ (k : ℕ). AreSuccessors n (take k (set items count (u, v))) (lists_at_mark links' k)) last
      (subst (λ (xs : List Pair). AreSuccessors n xs (lists_at_mark links' (count + 1))) (sym (take_more_set items count (u, v) in'))
      (subst (λ (xs : List (List ℕ)). AreSuccessors n (take count items ++ (u, v) ∷ []) xs) ls pushed))
  | inr i_le ↦
      let e₁ : lists_at_mark links' i ≡ get_or (links.trail ++ links.lists ∷ []) i links'.lists =
      ap (λ (t : List (List (List ℕ))). get_or t i links'.lists) trail in
      let e₂ : get_or (links.trail ++ links.lists ∷ []) i links'.lists ≡ lists_at_mark links i = elim (cases_lt i count) [
        | inl lt ↦ get_or_append_left links.trail (links.lists ∷ []) links'.lists i (omega (arith, lt, moves))
            ∙ get_or_default links.trail i links'.lists links.lists (omega (arith, lt, moves))
        | inr ge ↦
            let same : length links.trail ≡ i = omega (arith, ge, i_le, moves) in
            ap (λ (k : ℕ). get_or (links.trail ++ links.lists ∷ []) k links'.lists) (sym same)
            ∙ get_or-append_seam links.trail links.lists [] links'.lists ∙ sym (get_or_past links.trail i links.lists (omega (arith, same)))
      ] in
      subst (λ (xs : List Pair). AreSuccessors n xs (lists_at_mark links' i)) (sym (take-set-le i items count (u, v) i_le))
      (subst (λ (ls : List (List ℕ)). AreSuccessors n (take i items) ls) (sym (e₁ ∙ e₂)) (marked i i_le))
]

-- the number of the next pair stands in no list yet
pub IsFree-next : (n : ℕ) (pairs : List Pair) (lists : List (List ℕ)) (count : ℕ) → AreSuccessors n pairs lists →
    length pairs ≤ count → IsFree lists count
IsFree-next n pairs lists count successors le list lt has =
    let e = successors.each list (omega (arith, lt, successors.count)) in
    let below = numbers_from-below list 0 pairs count (subst (λ (xs : List ℕ). Contains xs count) e has) in
    omega (arith, below, le)
