-- Lists whose elements stand in a relation to all later ones, and what they contain.
use Rattle.std.proofs.lemmas.Grind.{common_steps}
use Rattle.std.proofs.Common.{◌≡◌, ℕ, zero, suc, ◌+◌, ◌-◌, ◌<◌, inl, inr, List, [], ◌∷◌}
use Rattle.std.proofs.Common.{◌++◌, length, take, get_or, Contains, arith, refl, sym, ap, ◌∙◌, subst}
use Rattle.std.proofs.Math.Seq.{take-append_seam, take-append-add}
use Rattle.std.proofs.lemmas.List.{append_cancel_left}
use Rattle.std.specs.List.{AllPairs}
use Rattle.net_model.proofs.Members.{Contains-none, Contains-first, Contains-rest, Contains-cases}
use Rattle.std.proofs.lemmas.List.Elements.{Contains-append_left, Contains-append_right, Contains-append_cases}

-- What a list contains

pub contains_one : {X : Type 0} (x y : X) → Contains (x ∷ []) y → x ≡ y
contains_one x y inside = grind (arith, common_steps, Contains-cases, Contains-none)

-- Each element and each later one

pub pairs_none : {X : Type 0} (R : X → X → Type 0) → AllPairs R []
pairs_none R i j d before within = absurd (omega (arith, within))

pub pairs_more : {X : Type 0} (R : X → X → Type 0) (x : X) (xs : List X) → ((y : X) → Contains xs y → R x y) → AllPairs R xs →
    AllPairs R (x ∷ xs)
pairs_more R x xs first rest zero zero d before within = absurd (omega (arith, before))
pairs_more {X} R x xs first rest zero (suc j) d before within =
    let inside : j < length xs = omega (arith, within) in
    first (get_or xs j d) (j, inside, get_or_same xs j (get_or xs j d) d inside)
  where
    get_or_same : (ys : List X) (k : ℕ) (d e : X) → k < length ys → get_or ys k d ≡ get_or ys k e
    get_or_same [] k d e below = absurd (omega (arith, below))
    get_or_same (y ∷ ys) zero d e below = refl
    get_or_same (y ∷ ys) (suc k) d e below = get_or_same ys k d e (omega (arith, below))
pairs_more R x xs first rest (suc i) zero d before within = absurd (omega (arith, before))
pairs_more R x xs first rest (suc i) (suc j) d before within = rest i j d (omega (arith, before)) (omega (arith, within))

pub pairs_first : {X : Type 0} (R : X → X → Type 0) (x : X) (xs : List X) → AllPairs R (x ∷ xs) → (y : X) → Contains xs y → R x y
pairs_first R x xs pairs y inside =
    let within = inside.1 in
    subst (λ z. R x z) inside.2 (pairs 0 (suc inside.0) y (omega arith) (omega (arith, within)))

pub pairs_rest : {X : Type 0} (R : X → X → Type 0) (x : X) (xs : List X) → AllPairs R (x ∷ xs) → AllPairs R xs
pairs_rest R x xs pairs i j d before within = pairs (suc i) (suc j) d (omega (arith, before)) (omega (arith, within))

pub pairs_append : {X : Type 0} (R : X → X → Type 0) (xs ys : List X) → AllPairs R xs → AllPairs R ys →
    ((x y : X) → Contains xs x → Contains ys y → R x y) → AllPairs R (xs ++ ys)
pairs_append R [] ys one two across = two
pairs_append R (x ∷ xs) ys one two across =
    pairs_more R x (xs ++ ys)
    (λ y inside. elim (Contains-append_cases xs ys y inside) [
      | inl left ↦ pairs_first R x xs one y left
      | inr right ↦ across x y (Contains-first x xs) right
    ])
    (pairs_append R xs ys (pairs_rest R x xs one) two (λ z y left right. across z y (Contains-rest x xs z left) right))

-- an element before a place, and one from it on
pub pairs_across : {X : Type 0} (R : X → X → Type 0) (xs ys : List X) → AllPairs R (xs ++ ys) → (x y : X) → Contains xs x →
    Contains ys y → R x y
pairs_across R [] ys pairs x y left right = absurd (Contains-none x left)
pairs_across R (z ∷ xs) ys pairs x y left right = elim (Contains-cases z xs x left) [
  | inl same ↦ subst (λ w. R w y) same (pairs_first R z (xs ++ ys) pairs y (Contains-append_right xs ys y right))
  | inr rest ↦ pairs_across R xs ys (pairs_rest R z (xs ++ ys) pairs) x y rest right
]

pub pairs_front : {X : Type 0} (R : X → X → Type 0) (xs ys : List X) → AllPairs R (xs ++ ys) → AllPairs R xs
pairs_front R [] ys pairs = pairs_none R
pairs_front R (x ∷ xs) ys pairs =
    pairs_more R x xs (λ y inside. pairs_first R x (xs ++ ys) pairs y (Contains-append_left xs ys y inside))
    (pairs_front R xs ys (pairs_rest R x (xs ++ ys) pairs))

pub pairs_back : {X : Type 0} (R : X → X → Type 0) (xs ys : List X) → AllPairs R (xs ++ ys) → AllPairs R ys
pairs_back R [] ys pairs = pairs
pairs_back R (x ∷ xs) ys pairs = pairs_back R xs ys (pairs_rest R x (xs ++ ys) pairs)

pub pairs_weaker : {X : Type 0} (R S : X → X → Type 0) → ((x y : X) → R x y → S x y) → (xs : List X) → AllPairs R xs → AllPairs S xs
pairs_weaker R S over xs pairs i j d before within = over (get_or xs i d) (get_or xs j d) (pairs i j d before within)

-- Fronts of one list

-- of two fronts the longer one goes on as the list
pub longer : {X : Type 0} (before : List X) (x : X) (after others rest : List X) → before ++ x ∷ after ≡ others ++ rest →
    length before < length others → others ≡ before ++ x ∷ take (length others - length before - 1) after
longer before x after others rest same lower =
    let more : ℕ = length others - length before - 1 in
    let long : length others ≡ length before + suc more = omega (arith, lower) in
    sym (take-append_seam others rest) ∙ ap (take (length others)) (sym same) ∙ ap (λ k. take k (before ++ x ∷ after)) long
    ∙ take-append-add before (x ∷ after) (suc more)

-- fronts of one length are one, and so is what follows them
pub same_front : {X : Type 0} (b1 b2 r1 r2 : List X) → b1 ++ r1 ≡ b2 ++ r2 → length b1 ≡ length b2 → (b1 ≡ b2) × (r1 ≡ r2)
same_front b1 b2 r1 r2 e long =
    let fronts : b1 ≡ b2 = sym (take-append_seam b1 r1) ∙ ap (take (length b1)) e ∙ ap (λ k. take k (b2 ++ r2)) long ∙ take-append_seam b2 r2 in
    (fronts, append_cancel_left b2 r1 r2 (ap (λ l. l ++ r1) (sym fronts) ∙ e))
