-- The phase of a router after some changes of an order, and in a wave of ranked routers.
use Rattle.std.proofs.Common.{◌≡◌, ◌∙◌, ℕ, zero, suc, ◌+◌, ◌*◌, ◌/◌, ◌<◌, ◌≤◌, ◌==◌, if◌then◌else◌, List, [], ◌∷◌, ◌++◌, length, get_or, take}
use Rattle.std.proofs.Common.{Bool, ap, arith, inl, inr, refl, sym}
use Rattle.std.proofs.lemmas.Bool.Decides.{eqb_tells}
use Rattle.std.proofs.lemmas.List.{get_or_read, take_all, take_more}
use Rattle.igp_theory.specs.States.{changes_of, changes_on}

changes_length : (order : List ℕ) → length (changes_of order) ≡ 2 * length order
changes_length [] = refl
changes_length (u ∷ order) = let rest : length (changes_of order) ≡ 2 * length order = changes_length order in omega (arith, rest)

-- change k is of the router at place k / 2
change_at : (order : List ℕ) (k : ℕ) → get_or (changes_of order) k 0 ≡ get_or order (k / 2) 0
change_at [] k = refl
change_at (u ∷ order) zero = refl
change_at (u ∷ order) (suc zero) = refl
change_at (u ∷ order) (suc (suc k)) =
    let half : suc (k / 2) ≡ suc (suc k) / 2 = omega arith in
    change_at order k ∙ ap (λ (n : ℕ). get_or (u ∷ order) n 0) half

-- what a change of router v counts for u
abbrev pub count_of : ℕ → ℕ → ℕ
count_of u v = if u == v then 1 else 0

changes_on-push : (u : ℕ) (changes : List ℕ) (v : ℕ) → changes_on u (changes ++ v ∷ []) ≡ changes_on u changes + count_of u v
changes_on-push u [] v = omega arith
changes_on-push u (w ∷ changes) v =
    let rest : changes_on u (changes ++ v ∷ []) ≡ changes_on u changes + count_of u v = changes_on-push u changes v in
    omega (arith, rest)

pub made_more : (order : List ℕ) (k u : ℕ) → k / 2 < length order →
    changes_on u (take (k + 1) (changes_of order)) ≡ changes_on u (take k (changes_of order)) + count_of u (get_or order (k / 2) 0)
made_more order k u within =
    let long = changes_length order in
    let fits : k < length (changes_of order) = omega (arith, within, long) in
    ap (changes_on u) (take_more (changes_of order) k 0 fits)
    ∙ changes_on-push u (take k (changes_of order)) (get_or (changes_of order) k 0)
    ∙ ap (λ (v : ℕ). changes_on u (take k (changes_of order)) + count_of u v) (change_at order k)

pub made_past : (order : List ℕ) (k u : ℕ) → length order ≤ k / 2 →
    changes_on u (take (k + 1) (changes_of order)) ≡ changes_on u (take k (changes_of order)) + 0
made_past order k u past =
    let long = changes_length order in
    let whole : length (changes_of order) ≤ k = omega (arith, long, past) in
    let same = ap (changes_on u) (take_all (k + 1) (changes_of order) (omega (arith, whole)) ∙ sym (take_all k (changes_of order) whole)) in
    omega (arith, same)

-- a change of router v counts one for it, and none for another one
module _ (order : List ℕ) (k u v : ℕ) (within : k / 2 < length order) (at : v ≡ get_or order (k / 2) v) where
  made_there : changes_on u (take (k + 1) (changes_of order)) ≡ changes_on u (take k (changes_of order)) + count_of u v
  made_there = made_more order k u within
      ∙ ap (λ (w : ℕ). changes_on u (take k (changes_of order)) + count_of u w) (sym (get_or_read order (k / 2) v within at 0))

  pub made_one : v ≡ u → changes_on u (take (k + 1) (changes_of order)) ≡ changes_on u (take k (changes_of order)) + 1
  made_one same =
      let counts : count_of u v ≡ 1 = elim (eqb_tells u v) [
        | inl found ↦ ap (λ (b : Bool). if b then 1 else 0) found.0
        | inr other ↦ absurd (other.1 (sym same))
      ] in
      omega (arith, made_there, counts)

  pub made_none : ¬ (v ≡ u) → changes_on u (take (k + 1) (changes_of order)) ≡ changes_on u (take k (changes_of order)) + 0
  made_none apart =
      let counts : count_of u v ≡ 0 = elim (eqb_tells u v) [
        | inl found ↦ absurd (apart (sym found.1))
        | inr other ↦ ap (λ (b : Bool). if b then 1 else 0) other.0
      ] in
      omega (arith, made_there, counts)
