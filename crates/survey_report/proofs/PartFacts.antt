-- Lists that are put together from parts: with one part more, and that there is one such list.
use Rattle.std.proofs.Common.{◌≡◌, ℕ, ◌+◌, ◌<◌, List, [], ◌∷◌, ◌++◌, length, take, get_or, refl, sym, ap, ap₂, subst, ◌∙◌}
use Rattle.std.proofs.Common.{append_assoc, append-nil}
use Rattle.std.proofs.lemmas.List.{take_more}
use Rattle.survey_report.specs.Parts.{ArePartsOf}

pub ArePartsOf-push : {X A : Type 0} (IsPart : X → List A → Type 0) (xs : List X) (x : X) (whole part : List A) →
    ArePartsOf IsPart xs whole → IsPart x part → ArePartsOf IsPart (xs ++ x ∷ []) (whole ++ part)
ArePartsOf-push IsPart [] x whole part parts is = record {
  one = part;
  other = [];
  is_one = is;
  is_other = refl;
  whole_is = ap (λ w. w ++ part) parts ∙ sym (append-nil part);
}
ArePartsOf-push IsPart (y ∷ ys) x whole part parts is = record {
  one = parts.one;
  other = parts.other ++ part;
  is_one = parts.is_one;
  is_other = ArePartsOf-push IsPart ys x parts.other part parts.is_other is;
  whole_is = ap (λ w. w ++ part) parts.whole_is ∙ append_assoc parts.one parts.other part;
}

-- one part more in a loop over some things
pub ArePartsOf-next : {X A : Type 0} (IsPart : X → List A → Type 0) (xs : List X) (i : ℕ) (x : X) (whole part longer : List A) →
    i < length xs → x ≡ get_or xs i x → ArePartsOf IsPart (take i xs) whole → IsPart x part → longer ≡ whole ++ part →
    ArePartsOf IsPart (take (i + 1) xs) longer
ArePartsOf-next {X} {A} IsPart xs i x whole part longer within read parts is made =
    let e : take i xs ++ x ∷ [] ≡ take (i + 1) xs =
    ap (λ (y : X). take i xs ++ y ∷ []) read ∙ sym (take_more xs i x within) in
    subst (λ (w : List A). ArePartsOf IsPart (take (i + 1) xs) w) (sym made)
    (subst (λ (ys : List X). ArePartsOf IsPart ys (whole ++ part)) e (ArePartsOf-push IsPart (take i xs) x whole part parts is))

-- where each part is one, the whole is
pub ArePartsOf-unique : {X A : Type 0} (IsPart : X → List A → Type 0) →
    ((x : X) (a b : List A) → IsPart x a → IsPart x b → a ≡ b) → (xs : List X) (a b : List A) →
    ArePartsOf IsPart xs a → ArePartsOf IsPart xs b → a ≡ b
ArePartsOf-unique IsPart once [] a b one other = one ∙ sym other
ArePartsOf-unique {X} {A} IsPart once (x ∷ xs) a b one other =
    one.whole_is
    ∙ ap₂ (λ (s t : List A). s ++ t) (once x one.one other.one one.is_one other.is_one)
    (ArePartsOf-unique IsPart once xs one.other other.other one.is_other other.is_other)
    ∙ sym other.whole_is
