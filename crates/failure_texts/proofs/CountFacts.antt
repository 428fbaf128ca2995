-- Each link is counted once, and the line of the counts.
use Rattle.std.proofs.Common.{◌≡◌, ℕ, suc, ◌+◌, Bool, cond, List, [], ◌∷◌, ◌++◌, length, refl, sym, ap, ◌∙◌, arith}
use Rattle.std.specs.List.{count_by}
use Rattle.std.proofs.lemmas.Grind.{flat_map-append}
use Rattle.std.proofs.lemmas.List.{append_assoc}
use Rattle.std.proofs.lemmas.List.Sums.{sum_by-cons}
use Rattle.printed_lines.specs.Texts.{line}
use Rattle.printed_lines.specs.Words.{spaced}
use Rattle.failure_texts.specs.FailureLaws.{CountsAddUp}
use Rattle.failure_texts.specs.LinkVerdicts.{break_count, end_count, is_break, is_ended, is_withstood, withstood_count}
use Rattle.failure_texts.specs.declared.verdict.FailedLink.{FailedLink}
use Rattle.failure_texts.specs.declared.verdict.LinkVerdict.{LinkVerdict}
use Rattle.failure_texts.specs.declared.verdict.LinkVerdict.TheVariants.{Withstood, Breaks, BreaksWave, UnsoundOld, UnsoundNew, Refused}

count_by-cons : {A : Type 0} (p : A → Bool) (x : A) (xs : List A) → count_by p (x ∷ xs) ≡ cond (p x) 1 0 + count_by p xs
count_by-cons p x xs = sum_by-cons (λ y. cond (p y) 1 0) x xs

one_kind : (v : LinkVerdict) → cond (is_withstood v) 1 0 + cond (is_break v) 1 0 + cond (is_ended v) 1 0 ≡ 1
one_kind Withstood = refl
one_kind (Breaks state fault) = refl
one_kind (BreaksWave wave fault) = refl
one_kind (UnsoundOld fault) = refl
one_kind (UnsoundNew fault) = refl
one_kind (Refused refusal) = refl

added : (one two three w b e n all_w all_b all_e : ℕ) → one + two + three ≡ 1 → all_w ≡ one + w → all_b ≡ two + b → all_e ≡ three + e →
    w + b + e ≡ n → all_w + all_b + all_e ≡ suc n
added one two three w b e n all_w all_b all_e kind withstood broken ended rest = omega (arith, kind, withstood, broken, ended, rest)

pub CountsAddUp-all : CountsAddUp
CountsAddUp-all [] = refl
CountsAddUp-all (x ∷ failed) =
    added _ _ _ (withstood_count failed) (break_count failed) (end_count failed) (length failed) _ _ _ (one_kind x.verdict)
    (count_by-cons (λ (y : FailedLink). is_withstood y.verdict) x failed)
    (count_by-cons (λ (y : FailedLink). is_break y.verdict) x failed)
    (count_by-cons (λ (y : FailedLink). is_ended y.verdict) x failed)
    (CountsAddUp-all failed)

-- ---- the line ----

joined : (first : List ℕ) (xs ys : List (List ℕ)) → first ++ spaced xs ++ spaced ys ≡ first ++ spaced (xs ++ ys)
joined first xs ys =
    append_assoc first (spaced xs) (spaced ys) ∙ ap (λ l. first ++ l) (sym (flat_map-append (λ (word : List ℕ). 32 ∷ word) xs ys))

-- words that are added two by two are a line
pub pairs_line : (first a b c d e f g h : List ℕ) →
    first ++ spaced (a ∷ b ∷ []) ++ spaced (c ∷ d ∷ []) ++ spaced (e ∷ f ∷ []) ++ spaced (g ∷ h ∷ []) ++ 10 ∷ []
    ≡ line first (a ∷ b ∷ c ∷ d ∷ e ∷ f ∷ g ∷ h ∷ [])
pairs_line first a b c d e f g h =
    ap (λ l. l ++ 10 ∷ [])
    (ap (λ l. l ++ spaced (e ∷ f ∷ []) ++ spaced (g ∷ h ∷ [])) (joined first (a ∷ b ∷ []) (c ∷ d ∷ []))
    ∙ ap (λ l. l ++ spaced (g ∷ h ∷ [])) (joined first (a ∷ b ∷ c ∷ d ∷ []) (e ∷ f ∷ []))
    ∙ joined first (a ∷ b ∷ c ∷ d ∷ e ∷ f ∷ []) (g ∷ h ∷ []))
