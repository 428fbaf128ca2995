-- Lists that are split at an item.
use Rattle.std.proofs.Common.{◌≡◌, ℕ, suc, ◌+◌, ◌-◌, ◌<◌, ◌⊎◌, inl, inr, List, ◌∷◌, ◌++◌, length, get_or, take, drop, sym, ap, ◌∙◌, arith}
use Rattle.std.proofs.lemmas.Bool.{cases_lt}
use Rattle.std.proofs.lemmas.List.{append_cancel_left, drop_more, take-append-drop, take-append-le}
use Rattle.std.proofs.Math.Seq.{take-append_seam, take-append-add}

-- a list is what stands before a place, the item there, and what stands behind it
pub at_place : {A : Type 0} (xs : List A) (k : ℕ) (d : A) → k < length xs → xs ≡ take k xs ++ get_or xs k d ∷ drop (k + 1) xs
at_place xs k d l = sym (take-append-drop k xs) ∙ ap (λ ys. take k xs ++ ys) (drop_more xs k d l)

-- a list of two parts that is split at an item has the item in the first part, or behind it
pub split_at : {A : Type 0} (before : List A) (x : A) (after first second : List A) → first ++ second ≡ before ++ x ∷ after →
    ((more : List A) × (first ≡ before ++ x ∷ more)) ⊎ ((front : List A) × (before ≡ first ++ front))
split_at {A = A} before x after first second same = elim (cases_lt (length before) (length first)) [
  | inl lower ↦
      let more : ℕ = length first - length before - 1 in
      let long : length first ≡ length before + suc more = omega (arith, lower) in
      inl (
        take more after,
        sym (take-append_seam first second) ∙ ap (take (length first)) same ∙ ap (λ k. take k (before ++ x ∷ after)) long
            ∙ take-append-add before (x ∷ after) (suc more),
      )
  | inr up ↦
      let front : take (length first) before ≡ first =
      sym (take-append-le (length first) before (x ∷ after) up) ∙ ap (take (length first)) (sym same) ∙ take-append_seam first second in
      inr (drop (length first) before, sym (take-append-drop (length first) before) ∙ ap (λ l. l ++ drop (length first) before) front)
]

-- two splits of one list at one place have one front and one item
pub one_split : {A : Type 0} (before : List A) (x : A) (after others : List A) (y : A) (rest : List A) → length before ≡ length others →
    before ++ x ∷ after ≡ others ++ y ∷ rest → (before ≡ others) × (x ≡ y)
one_split before x after others y rest long same =
    let fronts : before ≡ others = sym (take-append_seam before (x ∷ after)) ∙ ap (take (length before)) same
    ∙ ap (λ k. take k (others ++ y ∷ rest)) long ∙ take-append_seam others (y ∷ rest) in
    let backs : x ∷ after ≡ y ∷ rest = append_cancel_left others (x ∷ after) (y ∷ rest) (ap (λ l. l ++ x ∷ after) (sym fronts) ∙ same) in
    (fronts, cc)
