-- The changes of a router up to a state of an order, counted.
use Rattle.std.proofs.lemmas.Grind.{common_steps}
use Rattle.std.proofs.Common.{◌≡◌, ◌≢◌, ℕ, zero, suc, ◌+◌, ◌==◌, Bool, true, false, cond, List, [], ◌∷◌, take, Contains}
use Rattle.std.proofs.Common.{AllPairs, refl, sym, ap, ◌∙◌, ◌⊎◌, inl, inr, arith}
use Rattle.std.specs.List.{flat_map}
use Rattle.std.proofs.lemmas.Bool.Decides.{eqb_tells}
use Rattle.net_model.specs.Configuration.{Configuration}
use Rattle.net_model.specs.Network.{Network, HasConfiguration}
use Rattle.net_model.proofs.Members.{Contains-first, Contains-rest}
use Rattle.order_core.specs.Orders.{IsOrder}
use Rattle.igp_theory.specs.States.{changes_of, changes_on, phase_after, state_of}
use Rattle.igp_theory.specs.Changes.{Change, first, second, changed}
use Rattle.igp_theory.proofs.OrderedLists.{pairs_first, pairs_rest}
use Rattle.applied_changes.specs.AppliedTexts.{lines_to}
use Rattle.applied_changes.specs.MadeChanges.{made_on}
use Rattle.step_scripts.specs.Scripts.{change_lines}

-- the first changes of a router, so many
abbrev made_of : ℕ → ℕ → List Change
made_of u zero = []
made_of u (suc zero) = first u ∷ []
made_of u (suc (suc _)) = first u ∷ second u ∷ []

abbrev count_on : ℕ → ℕ → List ℕ → ℕ
count_on u k order = changes_on u (take k (changes_of order))

abbrev on : ℕ → Change → Bool
on u c = changed c == u

turned : (u v : ℕ) → (u == v) ≡ (v == u)
turned u v = by (eqb_tells u v) (eqb_tells v u)
  where
    by : (((u == v) ≡ true) × (u ≡ v)) ⊎ (((u == v) ≡ false) × (u ≢ v)) → (((v == u) ≡ true) × (v ≡ u)) ⊎
        (((v == u) ≡ false) × (v ≢ u)) → (u == v) ≡ (v == u)
    by (inl one) (inl other) = one.0 ∙ sym other.0
    by (inr one) (inr other) = one.0 ∙ sym other.0
    by (inl one) (inr other) = absurd (other.1 (sym one.1))
    by (inr one) (inl other) = absurd (one.1 (sym other.1))

-- a router that isn't in the order
none_made : (u k : ℕ) (order : List ℕ) → ((v : ℕ) → Contains order v → v ≢ u) → made_on u k order ≡ []
none_made u zero order apart = refl
none_made u (suc k) [] apart = refl
none_made u (suc zero) (v ∷ order) apart = off (eqb_tells v u)
  where
    off : (((v == u) ≡ true) × (v ≡ u)) ⊎ (((v == u) ≡ false) × (v ≢ u)) → cond (v == u) (first v ∷ []) [] ≡ []
    off (inl same) = absurd (apart v (Contains-first v order) same.1)
    off (inr other) = ap (λ b. cond b (first v ∷ []) []) other.0
none_made u (suc (suc k)) (v ∷ order) apart = off (eqb_tells v u) (none_made u k order (λ w inside. apart w (Contains-rest v order w inside)))
  where
    off : (((v == u) ≡ true) × (v ≡ u)) ⊎ (((v == u) ≡ false) × (v ≢ u)) → made_on u k order ≡ [] →
        cond (v == u) (first v ∷ cond (v == u) (second v ∷ made_on u k order) (made_on u k order)) (cond (v == u) (second v ∷ made_on u k order)
        (made_on u k order)) ≡ []
    off (inl same) rest = absurd (apart v (Contains-first v order) same.1)
    off (inr other) rest =
        ap (λ b. cond b (first v ∷ cond b (second v ∷ made_on u k order) (made_on u k order))
        (cond b (second v ∷ made_on u k order) (made_on u k order)))
        other.0 ∙ rest

none_counted : (u k : ℕ) (order : List ℕ) → ((v : ℕ) → Contains order v → v ≢ u) → count_on u k order ≡ 0
none_counted u zero order apart = refl
none_counted u (suc k) [] apart = refl
none_counted u (suc zero) (v ∷ order) apart = off (eqb_tells u v)
  where
    off : (((u == v) ≡ true) × (u ≡ v)) ⊎ (((u == v) ≡ false) × (u ≢ v)) → cond (u == v) 1 0 + 0 ≡ 0
    off (inl same) = absurd (apart v (Contains-first v order) (sym same.1))
    off (inr other) = ap (λ b. cond b 1 0 + 0) other.0
none_counted u (suc (suc k)) (v ∷ order) apart = off (eqb_tells u v) (none_counted u k order (λ w inside. apart w (Contains-rest v order w inside)))
  where
    off : (((u == v) ≡ true) × (u ≡ v)) ⊎ (((u == v) ≡ false) × (u ≢ v)) → count_on u k order ≡ 0 →
        cond (u == v) 1 0 + (cond (u == v) 1 0 + count_on u k order) ≡ 0
    off (inl same) rest = absurd (apart v (Contains-first v order) (sym same.1))
    off (inr other) rest = ap (λ b. cond b 1 0 + (cond b 1 0 + count_on u k order)) other.0 ∙ ap (λ n. 0 + (0 + n)) rest

-- the changes of a router are its first ones, as many as are counted
made_counted : (u k : ℕ) (order : List ℕ) → AllPairs (λ v w. v ≢ w) order → made_on u k order ≡ made_of u (count_on u k order)
made_counted u zero order once = refl
made_counted u (suc k) [] once = refl
made_counted u (suc zero) (v ∷ order) once = by (eqb_tells v u)
  where
    by : (((v == u) ≡ true) × (v ≡ u)) ⊎ (((v == u) ≡ false) × (v ≢ u)) → cond (v == u) (first v ∷ []) [] ≡ made_of u (cond (u == v) 1 0 + 0)
    by (inl same) =
        ap (λ b. cond b (first v ∷ []) []) same.0 ∙ ap (λ w. first w ∷ []) same.1
        ∙ sym (ap (λ b. made_of u (cond b 1 0 + 0)) (turned u v ∙ same.0))
    by (inr other) = ap (λ b. cond b (first v ∷ []) []) other.0 ∙ sym (ap (λ b. made_of u (cond b 1 0 + 0)) (turned u v ∙ other.0))
made_counted u (suc (suc k)) (v ∷ order) once = by (eqb_tells v u) (made_counted u k order (pairs_rest (λ v w. v ≢ w) v order once))
  where
    apart : v ≡ u → (w : ℕ) → Contains order w → w ≢ u
    apart same w inside e = pairs_first (λ v w. v ≢ w) v order once w inside (same ∙ sym e)

    by : (((v == u) ≡ true) × (v ≡ u)) ⊎ (((v == u) ≡ false) × (v ≢ u)) → made_on u k order ≡ made_of u (count_on u k order) →
        cond (v == u) (first v ∷ cond (v == u) (second v ∷ made_on u k order) (made_on u k order))
        (cond (v == u) (second v ∷ made_on u k order) (made_on u k order))
        ≡ made_of u (cond (u == v) 1 0 + (cond (u == v) 1 0 + count_on u k order))
    by (inl same) rest =
        ap (λ b. cond b (first v ∷ cond b (second v ∷ made_on u k order) (made_on u k order))
        (cond b (second v ∷ made_on u k order) (made_on u k order))) same.0
        ∙ ap (λ l. first v ∷ second v ∷ l) (none_made u k order (apart same.1))
        ∙ ap (λ w. first w ∷ second w ∷ []) same.1
        ∙ sym (ap (λ b. made_of u (cond b 1 0 + (cond b 1 0 + count_on u k order))) (turned u v ∙ same.0)
        ∙ ap (λ n. made_of u (1 + (1 + n))) (none_counted u k order (apart same.1)))
    by (inr other) rest =
        ap (λ b. cond b (first v ∷ cond b (second v ∷ made_on u k order) (made_on u k order))
        (cond b (second v ∷ made_on u k order) (made_on u k order))) other.0
        ∙ rest
        ∙ ap (made_of u) (let e : count_on u k order ≡ 0 + (0 + count_on u k order) = omega arith in e)
        ∙ sym (ap (λ b. made_of u (cond b 1 0 + (cond b 1 0 + count_on u k order))) (turned u v ∙ other.0))

lines_of_made : (net : Network) (u m : ℕ) (c : Configuration) → HasConfiguration net u c →
    flat_map (change_lines net) (made_of u m) ≡ lines_to (phase_after m) c
lines_of_made net u m c has = grind arith

pub made_lines : (net : Network) (n : ℕ) (order : List ℕ) (k u : ℕ) (c : Configuration) → IsOrder n order → HasConfiguration net u c →
    flat_map (change_lines net) (made_on u k order) ≡ lines_to (state_of order k u) c
made_lines net n order k u c lists has = grind (arith, common_steps, lines_of_made, made_counted)
