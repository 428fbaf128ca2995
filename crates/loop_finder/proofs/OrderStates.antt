-- The changes of an order, one after another.
use Rattle.std.proofs.lemmas.Grind.{common_steps}
use Rattle.std.proofs.Common.{◌≡◌, ℕ, zero, suc, ◌+◌, ◌-◌, ◌*◌, ◌/◌, ◌<◌, ◌≤◌, ◌==◌, if◌then◌else◌, List, [], ◌∷◌, ◌++◌, length, get_or, take, Contains}
use Rattle.std.proofs.Common.{Bool, false, arith, refl, sym, ap, ◌∙◌, subst, inl, inr}
use Rattle.std.proofs.lemmas.Bool.Decides.{eqb_tells}
use Rattle.std.proofs.lemmas.List.{take_more}
use Rattle.std.proofs.lemmas.List.Elements.{Contains-get_or}
use Rattle.igp_theory.specs.Phases.{State, state_in}
use Rattle.igp_theory.specs.States.{changes_of, changes_on, phase_after, state_of}
use Rattle.igp_theory.specs.declared.phase.Phase.{Phase}
use Rattle.loop_finder.specs.steps.Orders.{next_phase, IsOrderState, IsAdvanced}

-- two states that give each router one phase are one
pub same_state : (one other : State) → ((u : ℕ) → one u ≡ other u) → one ≡ other
same_state one other same = λ i u. same u i

-- two changes for each router
changes_length : (order : List ℕ) → length (changes_of order) ≡ 2 * length order
changes_length [] = refl
changes_length (u ∷ order) = let e : length (changes_of order) ≡ 2 * length order = changes_length order in omega (arith, e)

-- change k is of the router at place k / 2
change_at : (order : List ℕ) (k : ℕ) → get_or (changes_of order) k 0 ≡ get_or order (k / 2) 0
change_at [] k = refl
change_at (u ∷ order) zero = refl
change_at (u ∷ order) (suc zero) = refl
change_at (u ∷ order) (suc (suc k)) =
    let half : suc (k / 2) ≡ suc (suc k) / 2 = omega arith in
    change_at order k ∙ ap (λ (n : ℕ). get_or (u ∷ order) n 0) half

-- a test as a count, and what a change of router v counts for u
abbrev tally : Bool → ℕ
tally b = if b then 1 else 0

abbrev counted : ℕ → ℕ → ℕ
counted u v = tally (u == v)

-- one more change counts for its router
changes_on-push : (u : ℕ) (changes : List ℕ) (v : ℕ) → changes_on u (changes ++ v ∷ []) ≡ changes_on u changes + counted u v
changes_on-push u [] v = omega arith
changes_on-push u (w ∷ changes) v = let e : changes_on u (changes ++ v ∷ []) ≡ changes_on u changes + counted u v =
    changes_on-push u changes v in omega (arith, e)

phase_after-more : (c : ℕ) → phase_after (c + 1) ≡ next_phase (phase_after c)
phase_after-more c = grind (arith, common_steps)

-- the router that changes is one of the order's
pub changed_inside : (order : List ℕ) (n k : ℕ) → ((u : ℕ) → Contains order u → u < n) → k < length order → get_or order k 0 < n
changed_inside order n k all within = all (get_or order k 0) (Contains-get_or order k 0 within)

-- a change more
state_more : (order : List ℕ) (k u : ℕ) → k < 2 * length order →
    state_of order (k + 1) u ≡ phase_after (changes_on u (take k (changes_of order)) + counted u (get_or order (k / 2) 0))
state_more order k u within =
    let fits : k < length (changes_of order) = omega (arith, within, changes_length order) in
    ap (λ (xs : List ℕ). phase_after (changes_on u xs)) (take_more (changes_of order) k 0 fits)
    ∙ ap phase_after (changes_on-push u (take k (changes_of order)) (get_or (changes_of order) k 0))
    ∙ ap (λ (v : ℕ). phase_after (changes_on u (take k (changes_of order)) + counted u v)) (change_at order k)

-- the phases after change k, which the router at place k / 2 makes
pub state_advanced : (order : List ℕ) (phases next : List Phase) (k : ℕ) → k < 2 * length order → IsAdvanced phases next (get_or order (k / 2) 0) →
    IsOrderState phases order k → IsOrderState next order (k + 1)
state_advanced order phases next k within advanced state u =
    let r = get_or order (k / 2) 0 in
    elim (eqb_tells u r) [
      | inl same ↦ subst (λ (v : ℕ). state_in next v ≡ next_phase (state_in phases v)) (sym same.1) advanced.here ∙ ap next_phase (state u)
          ∙ sym (phase_after-more (changes_on u (take k (changes_of order))))
          ∙ ap (λ (b : Bool). phase_after (changes_on u (take k (changes_of order)) + tally b)) (sym same.0) ∙ sym (state_more order k u within)
      | inr apart ↦
          let none : counted u r ≡ tally false = ap tally apart.0 in
          let same : changes_on u (take k (changes_of order)) ≡ changes_on u (take k (changes_of order)) + counted u r = omega (arith, none) in
          advanced.others u apart.1 ∙ state u ∙ ap phase_after same ∙ sym (state_more order k u within)
    ]

-- Orders that begin alike

-- the first changes of two orders that share their first places
same_changes : (one other : List ℕ) (places k : ℕ) → length one ≡ length other → ((j : ℕ) → j < places → get_or other j 0 ≡ get_or one j 0) → k ≤ 2 * places
    → take k (changes_of other) ≡ take k (changes_of one)
same_changes [] [] places k many same most = refl
same_changes [] (v ∷ other) places k many same most = absurd (omega (arith, many))
same_changes (u ∷ one) [] places k many same most = absurd (omega (arith, many))
same_changes (u ∷ one) (v ∷ other) places zero many same most = refl
same_changes (u ∷ one) (v ∷ other) places (suc zero) many same most = ap (λ (x : ℕ). x ∷ []) (same 0 (omega (arith, most)))
same_changes (u ∷ one) (v ∷ other) places (suc (suc k)) many same most =
    let head : v ≡ u = same 0 (omega (arith, most)) in
    let rest : take k (changes_of other) ≡ take k (changes_of one) =
    same_changes one other (places - 1) k (omega (arith, many)) (λ j less. same (suc j) (omega (arith, less))) (omega (arith, most)) in
    ap (λ (x : ℕ). x ∷ x ∷ take k (changes_of other)) head ∙ ap (λ (xs : List ℕ). u ∷ u ∷ xs) rest

-- so they share their first states
pub same_states : (one other : List ℕ) (places k u : ℕ) → length one ≡ length other → ((j : ℕ) → j < places → get_or other j 0 ≡ get_or one j 0) →
    k < 2 * places + 1 → state_of other k u ≡ state_of one k u
same_states one other places k u many same less =
    ap (λ (xs : List ℕ). phase_after (changes_on u xs)) (same_changes one other places k many same (omega (arith, less)))
