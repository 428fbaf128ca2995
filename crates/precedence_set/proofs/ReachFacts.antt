-- What v reaches, marked and listed: one router more, the routers after one, and all.
use Rattle.std.proofs.lemmas.Grind.{common_steps}
use Rattle.std.proofs.Common.{◌≡◌, ◌≢◌, ℕ, suc, ◌+◌, ◌<◌, ◌≤◌, ◌⊎◌, inl, inr, Bool, true, false, List, [], ◌∷◌}
use Rattle.std.proofs.Common.{length, get_or, set, Option, Some, arith, subst, sym, ap, ◌∙◌}
use Rattle.std.specs.List.{Contains}
use Rattle.std.proofs.lemmas.Bool.{cases_lt, cases_eq}
use Rattle.std.proofs.lemmas.List.{get_or-set_same, get_or-set_other}
use Rattle.order_core.specs.Pairs.{Pair, IsPath, Reaches}
use Rattle.order_core.specs.Marks.{IsMarked}
use Rattle.order_core.proofs.Marked.{marked_count-none, marked_count-more}
use Rattle.order_core.proofs.Paths.{Reaches-itself, Reaches-step, Reaches-trans}
use Rattle.precedence_set.specs.steps.Marks.{AreListed, MarkedList, marked_list}
use Rattle.precedence_set.specs.steps.Walking.{Walk, pair_at, walk, IsFirstFrom}
use Rattle.precedence_set.proofs.SuccessorFacts.{HasPassed, HasPassed-begin, HasPassed-step, HasPassed-here}

-- One router more

pub AreListed-none : (marks : List Bool) (list : List ℕ) → ((r : ℕ) → ¬ IsMarked marks r) → AreListed marks list 0
AreListed-none marks list bare = grind (arith, common_steps, marked_count-none)

-- a mark stays when another is set, and is new only where it was set
pub marked_kept : (marks : List Bool) (w r : ℕ) → w < length marks → IsMarked marks r → IsMarked (set marks w true) r
marked_kept marks w r w_in marked = grind (arith, common_steps, cases_eq, get_or-set_other, get_or-set_same)

pub marked_from : (marks : List Bool) (w r : ℕ) → IsMarked (set marks w true) r → IsMarked marks r ⊎ (r ≡ w)
marked_from marks w r marked = grind (arith, common_steps, cases_eq, get_or-set_other)

pub AreListed-more : (marks : List Bool) (list : List ℕ) (count w : ℕ) → w < length marks → count < length list → ¬ IsMarked marks w →
    AreListed marks list count → AreListed (set marks w true) (set list count w) (count + 1)
AreListed-more marks list count w w_in room fresh are = record {
  counted = omega (arith, are.counted, marked_count-more marks w w_in fresh);
  listed = λ r marked. elim (marked_from marks w r marked) [
    | inl old ↦
        let at = are.listed r old in
        (at.0, omega (arith, at.1), get_or-set_other list count at.0 w 0 (λ same. omega (arith, same, at.1)) ∙ at.2)
    | inr same ↦ (count, omega arith, get_or-set_same list count w 0 room ∙ sym same)
  ];
  marked = λ j lt. elim (cases_lt j count) [
    | inl before ↦
        let at : get_or list j 0 ≡ get_or (set list count w) j 0 = sym (get_or-set_other list count j w 0 (λ same. omega (arith, same, before))) in
        subst (λ (x : ℕ). IsMarked (set marks w true) x) at (marked_kept marks w (get_or list j 0) w_in (are.marked j before))
    | inr ge ↦
        let here : j ≡ count = omega (arith, ge, lt) in
        let at : w ≡ get_or (set list count w) j 0 = sym (ap (λ (i : ℕ). get_or (set list count w) i 0) here ∙ get_or-set_same list count w 0 room) in
        subst (λ (x : ℕ). IsMarked (set marks w true) x) at (get_or-set_same marks w true false w_in)
  ];
}

-- The walk over the pairs from x

-- what the walk keeps
pub record IsReachingOn (w : Walk) (old new : MarkedList) : Type 0 where
  pub walked : HasPassed w (λ r. IsMarked new.marks r)
  pub listed : AreListed new.marks new.list new.count
  pub kept : (r : ℕ) → IsMarked old.marks r → IsMarked new.marks r
  pub from : (r : ℕ) → IsMarked new.marks r → IsMarked old.marks r ⊎ Contains w.pairs (w.from, r)
  pub same : (j : ℕ) → j < old.count → get_or new.list j 0 ≡ get_or old.list j 0
  pub no_fewer : old.count ≤ new.count

pub IsReachingOn-begin : (pairs : List Pair) (x : ℕ) (marks : List Bool) (list : List ℕ) (count : ℕ) (at : Option ℕ) → IsFirstFrom pairs x 0 at →
    AreListed marks list count → IsReachingOn (walk pairs x at) (marked_list marks list count) (marked_list marks list count)
IsReachingOn-begin pairs x marks list count at first listed = grind (arith, common_steps, HasPassed-begin)

pub IsReachingOn-step : (pairs : List Pair) (x : ℕ) (marks₀ marks marks' : List Bool) (list₀ list list' : List ℕ) (count₀ count count' i : ℕ)
    (next : Option ℕ) →
    IsReachingOn (walk pairs x (Some i)) (marked_list marks₀ list₀ count₀) (marked_list marks list count) →
    IsFirstFrom pairs x (suc i) next → AreListed marks' list' count' →
    ((r : ℕ) → IsMarked marks r → IsMarked marks' r) → ((r : ℕ) → IsMarked marks' r → IsMarked marks r ⊎ (r ≡ (pair_at pairs i).1)) →
    IsMarked marks' (pair_at pairs i).1 → ((j : ℕ) → j < count → get_or list' j 0 ≡ get_or list j 0) → count ≤ count' →
    IsReachingOn (walk pairs x next) (marked_list marks₀ list₀ count₀) (marked_list marks' list' count')
IsReachingOn-step pairs x marks₀ marks marks' list₀ list list' count₀ count count' i next on first listed kept from marked same no_fewer = record {
  walked = HasPassed-step pairs x i next (λ r. IsMarked marks r) (λ r. IsMarked marks' r) on.walked first kept marked;
  listed = listed;
  kept = λ r old. kept r (on.kept r old);
  from = λ r new. elim (from r new) [ inl old ↦ on.from r old | inr is ↦ inr (HasPassed-here pairs x i r (λ q. IsMarked marks q) on.walked is) ];
  same = λ j lt. same j (omega (arith, lt, on.no_fewer)) ∙ on.same j lt;
  no_fewer = omega (arith, on.no_fewer, no_fewer);
}

-- The walk over all that is reached

-- what is marked is reached from v, and so is marked what is assumed after the first k listed routers but u
pub record IsReaching (pairs : List Pair) (uv : Pair) (r : MarkedList) (k : ℕ) : Type 0 where
  pub listed : AreListed r.marks r.list r.count
  pub sound : (q : ℕ) → IsMarked r.marks q → Reaches pairs uv.1 q
  pub begun : IsMarked r.marks uv.1
  pub closed : (j : ℕ) → j < k → get_or r.list j 0 ≢ uv.0 → (w : ℕ) → Contains pairs (get_or r.list j 0, w) → IsMarked r.marks w
  pub within : k ≤ r.count

pub IsReaching-step : (pairs : List Pair) (u v : ℕ) (marks marks' : List Bool) (list list' : List ℕ) (k count count' : ℕ) → k < count →
    IsReaching pairs (u, v) (marked_list marks list count) k → AreListed marks' list' count' → ((r : ℕ) → IsMarked marks r → IsMarked marks' r) →
    ((r : ℕ) → IsMarked marks' r → IsMarked marks r ⊎ Contains pairs (get_or list k 0, r)) →
    (get_or list k 0 ≢ u → (w : ℕ) → Contains pairs (get_or list k 0, w) → IsMarked marks' w) →
    ((j : ℕ) → j < count → get_or list' j 0 ≡ get_or list j 0) → count ≤ count' → IsReaching pairs (u, v) (marked_list marks' list' count') (k + 1)
IsReaching-step pairs u v marks marks' list list' k count count' k_in on listed kept from after same no_fewer = record {
  listed = listed;
  sound = λ r marked. elim (from r marked) [
    | inl old ↦ on.sound r old
    | inr has ↦ Reaches-trans pairs v (get_or list k 0) r (on.sound (get_or list k 0) (on.listed.marked k k_in))
        (Reaches-step pairs (get_or list k 0) r r has (Reaches-itself pairs r))
  ];
  begun = kept v on.begun;
  closed = λ j lt differ w has. elim (cases_lt j k) [
    | inl before ↦
        let at : get_or list' j 0 ≡ get_or list j 0 = same j (omega (arith, before, k_in)) in
        kept w (on.closed j before (λ e. differ (at ∙ e)) w (subst (λ (x : ℕ). Contains pairs (x, w)) at has))
    | inr ge ↦
        let here : j ≡ k = omega (arith, ge, lt) in
        let at : get_or list' j 0 ≡ get_or list k 0 = ap (λ (i : ℕ). get_or list' i 0) here ∙ same k k_in in
        after (λ e. differ (at ∙ e)) w (subst (λ (x : ℕ). Contains pairs (x, w)) at has)
  ];
  within = omega (arith, k_in, no_fewer);
}

-- once all are walked over, u is marked where v reaches it
pub IsReaching-end : (pairs : List Pair) (u v : ℕ) (marks : List Bool) (list : List ℕ) (k count : ℕ) → count ≤ k →
    IsReaching pairs (u, v) (marked_list marks list count) k →
    Reaches pairs v u → IsMarked marks u
IsReaching-end pairs u v marks list k count whole on reaches = along v reaches.path reaches.onward on.begun
  where
    along : (x : ℕ) (path : List ℕ) → IsPath pairs x path u → IsMarked marks x → IsMarked marks u
    along x [] onward marked = subst (λ (y : ℕ). IsMarked marks y) onward marked
    along x (w ∷ path) onward marked =
        let at = on.listed.listed x marked in
        elim (cases_eq x u) [
          | inl same ↦ subst (λ (y : ℕ). IsMarked marks y) same marked
          | inr apart ↦ along w path onward.1 (on.closed at.0 (omega (arith, at.1, whole)) (λ e. apart (sym at.2 ∙ e)) w
              (subst (λ (y : ℕ). Contains pairs (y, w)) (sym at.2) onward.0))
        ]
