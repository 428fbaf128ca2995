-- Counts of the pairs that are left, one pair less, and routers listed one after another.
use Rattle.std.proofs.lemmas.Grind.{common_steps}
use Rattle.std.proofs.Common.{◌≡◌, ◌≢◌, ℕ, zero, suc, ◌+◌, ◌-◌, ◌<◌, ◌≤◌, ◌↔◌, ◌⊎◌, inl, inr, Bool, true, false}
use Rattle.std.proofs.Common.{eqb, cond, List, length, length-set, get_or, set, arith, sym, refl, ap, ◌∙◌}
use Rattle.std.proofs.lemmas.Bool.{eq-eqb, ne_eqb}
use Rattle.std.proofs.lemmas.Bool.Decides.{eqb_tells}
use Rattle.std.proofs.lemmas.List.{get_or-set_same, get_or-set_other}
use Rattle.order_core.specs.Pairs.{Pair}
use Rattle.precedence_set.specs.steps.Walking.{pair_at}
use Rattle.precedence_set.specs.steps.Sorting.{left_into, AreLeftCounts}

-- Counts

-- a pair counts where it is into the router and not gone
abbrev pub left_at : Bool → Bool → ℕ
left_at into gone = cond into (cond gone 0 1) 0

pub left_same : (pairs : List Pair) (g h : ℕ → Bool) (v k : ℕ) → ((i : ℕ) → i < k → g i ≡ h i) →
    left_into pairs g v k ≡ left_into pairs h v k
left_same pairs g h v zero same = refl
left_same pairs g h v (suc k) same =
    ap (λ (b : Bool). left_into pairs g v k + left_at (eqb (pair_at pairs k).1 v) b) (same k (omega arith))
    ∙ ap (λ (n : ℕ). n + left_at (eqb (pair_at pairs k).1 v) (h k)) (left_same pairs g h v k (λ i lt. same i (omega (arith, lt))))

-- there are no more left than pairs
pub left_le : (pairs : List Pair) (gone : ℕ → Bool) (v k : ℕ) → left_into pairs gone v k ≤ k
left_le pairs gone v zero = omega arith
left_le pairs gone v (suc k) = by_test (eqb (pair_at pairs k).1 v) (gone k) (left_le pairs gone v k)
  where
    by_test : (b g : Bool) → left_into pairs gone v k ≤ k → left_into pairs gone v k + left_at b g ≤ suc k
    by_test true true le = omega (arith, le)
    by_test true false le = omega (arith, le)
    by_test false g le = omega (arith, le)

-- pair i is gone besides
abbrev pub with_gone : (ℕ → Bool) → ℕ → ℕ → Bool
with_gone gone i j = cond (eqb j i) true (gone j)

with_gone-other : (gone : ℕ → Bool) (i j : ℕ) → j ≢ i → with_gone gone i j ≡ gone j
with_gone-other gone i j apart = ap (λ (b : Bool). cond b true (gone j)) (ne_eqb j i apart)

-- there is one less left into the router where pair i leads
pub left_gone : (pairs : List Pair) (gone : ℕ → Bool) (i v k : ℕ) → i < k → gone i ≡ false → (pair_at pairs i).1 ≡ v →
    left_into pairs (with_gone gone i) v k + 1 ≡ left_into pairs gone v k
left_gone pairs gone i v zero lt there to = absurd (omega (arith, lt))
left_gone pairs gone i v (suc k) lt there to = elim (eqb_tells i k) [
  | inl same ↦
      let before : left_into pairs (with_gone gone i) v k ≡ left_into pairs gone v k =
      left_same pairs (with_gone gone i) gone v k (λ j j_lt. with_gone-other gone i j (omega (arith, j_lt, same.1))) in
      let here : eqb (pair_at pairs k).1 v ≡ true = eq-eqb (pair_at pairs k).1 v (ap (λ (x : ℕ). (pair_at pairs x).1) (sym same.1) ∙ to) in
      let new : left_at (eqb (pair_at pairs k).1 v) (with_gone gone i k) ≡ 0 = ap (λ (b : Bool). left_at b (with_gone gone i k)) here
      ∙ ap (λ (b : Bool). left_at true (cond b true (gone k))) (eq-eqb k i (sym same.1)) in
      let old : left_at (eqb (pair_at pairs k).1 v) (gone k) ≡ 1 =
      ap (λ (b : Bool). left_at b (gone k)) here ∙ ap (λ (b : Bool). left_at true b) (ap gone (sym same.1) ∙ there) in
      omega (arith, before, new, old)
  | inr apart ↦
      let rest = left_gone pairs gone i v k (omega (arith, lt, apart.1)) there to in
      let here : left_at (eqb (pair_at pairs k).1 v) (with_gone gone i k) ≡ left_at (eqb (pair_at pairs k).1 v) (gone k) =
      ap (λ (b : Bool). left_at (eqb (pair_at pairs k).1 v) b) (with_gone-other gone i k (λ e. apart.1 (sym e))) in
      omega (arith, rest, here)
]

-- and as many into another one
pub left_other : (pairs : List Pair) (gone : ℕ → Bool) (i v k : ℕ) → (pair_at pairs i).1 ≢ v →
    left_into pairs (with_gone gone i) v k ≡ left_into pairs gone v k
left_other pairs gone i v zero away = refl
left_other pairs gone i v (suc k) away = elim (eqb_tells k i) [
  | inl same ↦
      let off : eqb (pair_at pairs k).1 v ≡ false = ne_eqb (pair_at pairs k).1 v (λ e. away (ap (λ (x : ℕ). (pair_at pairs x).1) (sym same.1) ∙ e)) in
      let new : left_at (eqb (pair_at pairs k).1 v) (with_gone gone i k) ≡ 0 = ap (λ (b : Bool). left_at b (with_gone gone i k)) off in
      let old : left_at (eqb (pair_at pairs k).1 v) (gone k) ≡ 0 = ap (λ (b : Bool). left_at b (gone k)) off in
      omega (arith, left_other pairs gone i v k away, new, old)
  | inr apart ↦
      let here : left_at (eqb (pair_at pairs k).1 v) (with_gone gone i k) ≡ left_at (eqb (pair_at pairs k).1 v) (gone k) =
      ap (λ (b : Bool). left_at (eqb (pair_at pairs k).1 v) b) (with_gone-other gone i k apart.1) in
      omega (arith, left_other pairs gone i v k away, here)
]

-- where none is left, every pair into v is gone
pub left_none : (pairs : List Pair) (gone : ℕ → Bool) (v k : ℕ) → left_into pairs gone v k ≡ 0 → (i : ℕ) → i < k →
    (pair_at pairs i).1 ≡ v → gone i ≡ true
left_none pairs gone v zero none i lt to = absurd (omega (arith, lt))
left_none pairs gone v (suc k) none i lt to = elim (eqb_tells i k) [
  | inl same ↦
      let here : eqb (pair_at pairs k).1 v ≡ true = eq-eqb (pair_at pairs k).1 v (ap (λ (x : ℕ). (pair_at pairs x).1) (sym same.1) ∙ to) in
      let term : left_at (eqb (pair_at pairs k).1 v) (gone k) ≡ left_at true (gone k) = ap (λ (b : Bool). left_at b (gone k)) here in
      ap gone same.1 ∙ by_test (gone k) (omega (arith, none, term))
  | inr apart ↦ left_none pairs gone v k (omega (arith, none)) i (omega (arith, lt, apart.1)) to
]
  where
    by_test : (b : Bool) → left_at true b ≡ 0 → b ≡ true
    by_test true e = refl
    by_test false e = absurd (omega (arith, e))

-- where some are left, one can be named
pub left_some : (pairs : List Pair) (gone : ℕ → Bool) (v k : ℕ) → 0 < left_into pairs gone v k → (i : ℕ) × (i < k) ×
    ((pair_at pairs i).1 ≡ v) × (gone i ≡ false)
left_some pairs gone v zero some = absurd (omega (arith, some))
left_some pairs gone v (suc k) some = elim (eqb_tells (pair_at pairs k).1 v) [
  | inl here ↦ by_gone (left_some pairs gone v k) (gone k) refl here
  | inr off ↦
      let term : left_at (eqb (pair_at pairs k).1 v) (gone k) ≡ 0 = ap (λ (b : Bool). left_at b (gone k)) off.0 in
      let found = left_some pairs gone v k (omega (arith, some, term)) in
      (found.0, omega (arith, found.1), found.2, found.3)
]
  where
    by_gone : (0 < left_into pairs gone v k → (i : ℕ) × (i < k) × ((pair_at pairs i).1 ≡ v) × (gone i ≡ false)) → (b : Bool) → gone k ≡ b →
        (eqb (pair_at pairs k).1 v ≡ true) × ((pair_at pairs k).1 ≡ v) →
        (i : ℕ) × (i < suc k) × ((pair_at pairs i).1 ≡ v) × (gone i ≡ false)
    by_gone earlier false e here = (k, omega arith, here.1, e)
    by_gone earlier true e here =
        let term : left_at (eqb (pair_at pairs k).1 v) (gone k) ≡ 0 =
        ap (λ (b : Bool). left_at b (gone k)) here.0 ∙ ap (λ (b : Bool). left_at true b) e in
        let found = earlier (omega (arith, some, term)) in
        (found.0, omega (arith, found.1), found.2, found.3)

-- the counts say the same of pairs that are gone in other words
pub AreLeftCounts-same : (pairs : List Pair) (P Q : ℕ → Type 0) (counts : List ℕ) → ((i : ℕ) → i < length pairs → P i ↔ Q i) →
    AreLeftCounts pairs P counts → AreLeftCounts pairs Q counts
AreLeftCounts-same pairs P Q counts same counted = grind (arith, common_steps)

not_gone : (b : Bool) → ¬ (b ≡ true) → b ≡ false
not_gone b never = elim b as (λ (x : Bool). ¬ (x ≡ true) → x ≡ false) [ true ↦ λ other. absurd (other refl) | false ↦ λ other. refl ] never

-- one is left into the router where a pair leads that isn't gone
pub counted_some : (pairs : List Pair) (P : ℕ → Type 0) (counts : List ℕ) (i v : ℕ) → AreLeftCounts pairs P counts → i < length pairs →
    ¬ P i → (pair_at pairs i).1 ≡ v → v < length counts → 0 < get_or counts v 0
counted_some pairs P counts i v counted lt there to v_in =
    let fresh = not_gone (counted.gone i) (λ e. there ((counted.tells i lt).0 e)) in
    omega (arith, counted.each v v_in, left_gone pairs counted.gone i v (length pairs) lt fresh to)

pub AreLeftCounts-gone : (pairs : List Pair) (P Q : ℕ → Type 0) (counts new : List ℕ) (i v : ℕ) → AreLeftCounts pairs P counts →
    i < length pairs → ¬ P i → (pair_at pairs i).1 ≡ v → v < length counts → new ≡ set counts v (get_or counts v 0 - 1) →
    ((j : ℕ) → j < length pairs → Q j ↔ (P j ⊎ (j ≡ i))) → AreLeftCounts pairs Q new
AreLeftCounts-gone pairs P Q counts new i v counted lt there to v_in is both =
    let fresh = not_gone (counted.gone i) (λ e. there ((counted.tells i lt).0 e)) in
    record {
      gone = with_gone counted.gone i;
      tells = λ j j_lt. elim (eqb_tells j i) [
        | inl same ↦ (λ e. (both j j_lt).1 (inr same.1), λ q. ap (λ (b : Bool). cond b true (counted.gone j)) same.0)
        | inr apart ↦ (
          λ e. (both j j_lt).1 (inl ((counted.tells j j_lt).0 (sym (with_gone-other counted.gone i j apart.1) ∙ e))),
          λ q. with_gone-other counted.gone i j apart.1 ∙ elim ((both j j_lt).0 q) [
            | inl old ↦ (counted.tells j j_lt).1 old
            | inr same ↦ absurd (apart.1 same)
          ],
        )
      ];
      each = λ w w_in.
          let w_lt : w < length counts = omega (arith, w_in, ap (λ (xs : List ℕ). length xs) is, length-set {A = ℕ}) in
          let here : get_or new w 0 ≡ get_or (set counts v (get_or counts v 0 - 1)) w 0 = ap (λ (xs : List ℕ). get_or xs w 0) is in
          elim (eqb_tells w v) [
            | inl same ↦
                let at : get_or (set counts v (get_or counts v 0 - 1)) w 0 ≡ get_or counts v 0 - 1 =
                ap (λ (x : ℕ). get_or (set counts v (get_or counts v 0 - 1)) x 0) same.1 ∙ get_or-set_same counts v (get_or counts v 0 - 1) 0 v_in in
                let less = left_gone pairs counted.gone i w (length pairs) lt fresh (to ∙ sym same.1) in
                let old : get_or counts v 0 ≡ left_into pairs counted.gone w (length pairs) =
                ap (λ (x : ℕ). get_or counts x 0) (sym same.1) ∙ counted.each w w_lt in
                omega (arith, here, at, less, old)
            | inr apart ↦
                here ∙ get_or-set_other counts v w (get_or counts v 0 - 1) 0 apart.1 ∙ counted.each w w_lt
                ∙ sym (left_other pairs counted.gone i w (length pairs) (λ e. apart.1 (sym e ∙ to)))
          ];
    }
