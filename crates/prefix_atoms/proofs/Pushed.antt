-- Lists that are made by pushes, and what stands at their places.
use Rattle.std.proofs.Common.{◌≡◌, refl, ℕ, zero, suc, ◌+◌, ◌<◌, ◌≤◌, List, [], ◌∷◌, ◌++◌, length, get_or, Some, slice_get, ⊎_elim, arith}
use Rattle.std.proofs.Common.{sym, ap, subst, ◌∙◌, length-append}
use Rattle.std.proofs.lemmas.Bool.{cases_lt}
use Rattle.std.proofs.lemmas.List.{get_or_append_left, get_or_push}
use Rattle.std.proofs.lemmas.Option.{slice_get_within, slice_get-get_or, get_or_from_slice_get}

-- at each place of a list something stands
pub at_place : {X : Type 0} (xs : List X) (i : ℕ) → i < length xs → (x : X) × (slice_get xs i ≡ Some x)
at_place [] i within = absurd (omega arith)
at_place (x ∷ xs) zero within = (x, refl)
at_place (x ∷ xs) (suc i) within = at_place xs i (omega arith)

-- each element of a list is what is asked for at its place, and so is one element more
pub each_more : {X : Type 0} (P : ℕ → X → Type 0) (old new : List X) (x : X) (i : ℕ) → length old ≡ i → ((k : ℕ) (y : X) → slice_get old k ≡ Some y → P k y)
    → new ≡ old ++ x ∷ [] → P i x → (k : ℕ) (y : X) → slice_get new k ≡ Some y → P k y
each_more P old new x i count each is here k y at =
    let at' : slice_get (old ++ x ∷ []) k ≡ Some y = subst (λ xs. slice_get xs k ≡ Some y) is at in
    let read : get_or (old ++ x ∷ []) k y ≡ y = get_or_from_slice_get (old ++ x ∷ []) k y y at' in
    let within : k < length (old ++ x ∷ []) = slice_get_within (old ++ x ∷ []) k y at' in
    let long : length (old ++ x ∷ []) ≡ length old + 1 = length-append old (x ∷ []) in
    ⊎_elim
    (λ (l : k < length old). each k y (slice_get-get_or old k y l ∙ ap Some (sym (get_or_append_left old (x ∷ []) y k l) ∙ read)))
    (λ (l : length old ≤ k).
    let e : length old ≡ k = omega arith in
    subst (λ (n : ℕ). P n y) (sym count ∙ e) (subst (P i) (sym (get_or_push old x y k e) ∙ read) here))
    (cases_lt k (length old))

pub count_more : {X : Type 0} (old new : List X) (x : X) (i : ℕ) → length old ≡ i → new ≡ old ++ x ∷ [] → length new ≡ i + 1
count_more old new x i count is = ap length is ∙ length-append old (x ∷ []) ∙ ap (λ (m : ℕ). m + 1) count
