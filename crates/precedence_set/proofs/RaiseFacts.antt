-- Routers raised above their predecessors, one router of the order after another.
use Rattle.std.proofs.lemmas.Grind.{common_steps}
use Rattle.std.proofs.Common.{◌≡◌, ◌≢◌, ℕ, suc, ◌+◌, ◌<◌, ◌≤◌, ◌⊎◌, inl, inr, List, length, get_or, set, max, Option, Some}
use Rattle.std.proofs.Common.{arith, subst, sym, ap, ◌∙◌}
use Rattle.std.specs.List.{Contains}
use Rattle.std.proofs.lemmas.Bool.{cases_lt}
use Rattle.std.proofs.lemmas.Bool.Decides.{eqb_tells}
use Rattle.std.proofs.lemmas.List.{get_or-set_same, get_or-set_other}
use Rattle.order_core.specs.Pairs.{Pair, AreBelow}
use Rattle.order_core.specs.Rankings.{rank_of}
use Rattle.precedence_set.specs.steps.Walking.{Walk, pair_at, walk, IsFirstFrom}
use Rattle.precedence_set.specs.Layers.{AreLayers}
use Rattle.precedence_set.specs.steps.Sorting.{IsTopological}
use Rattle.precedence_set.proofs.LayerFacts.{pair_below}
use Rattle.precedence_set.proofs.SuccessorFacts.{HasPassed, HasPassed-begin, HasPassed-step, HasPassed-here}

-- The walk over the pairs from u

-- what the walk keeps
pub record IsRaising (w : Walk) (old layers : List ℕ) (above : ℕ) : Type 0 where
  pub walked : HasPassed w (λ v. above ≤ rank_of layers v)
  pub no_lower : (v : ℕ) → rank_of old v ≤ rank_of layers v
  pub from : (v : ℕ) → (rank_of layers v ≡ rank_of old v) ⊎ (Contains w.pairs (w.from, v) × (rank_of layers v ≡ above))

pub IsRaising-begin : (pairs : List Pair) (layers : List ℕ) (u above : ℕ) (at : Option ℕ) → IsFirstFrom pairs u 0 at →
    IsRaising (walk pairs u at) layers layers above
IsRaising-begin pairs layers u above at first = grind (arith, common_steps, HasPassed-begin)

pub IsRaising-step : (pairs : List Pair) (old layers : List ℕ) (u above i : ℕ) (next : Option ℕ) (top : ℕ) →
    IsRaising (walk pairs u (Some i)) old layers above → (pair_at pairs i).1 < length layers → IsFirstFrom pairs u (suc i) next →
    top ≡ max (rank_of layers (pair_at pairs i).1) above → IsRaising (walk pairs u next) old (set layers (pair_at pairs i).1 top) above
IsRaising-step pairs old layers u above i next top r v_in first is =
    let here : rank_of (set layers (pair_at pairs i).1 top) (pair_at pairs i).1 ≡ top = get_or-set_same layers (pair_at pairs i).1 top 0 v_in in
    let other : (w : ℕ) → w ≢ (pair_at pairs i).1 → rank_of (set layers (pair_at pairs i).1 top) w ≡ rank_of layers w =
    λ w (apart : w ≢ (pair_at pairs i).1). get_or-set_other layers (pair_at pairs i).1 w top 0 apart in
    let grown : (w : ℕ) → rank_of layers w ≤ rank_of (set layers (pair_at pairs i).1 top) w = λ (w : ℕ). elim (eqb_tells w (pair_at pairs i).1) [
      | inl same ↦ omega (
        arith,
        here,
        is,
        ap (λ (x : ℕ). rank_of layers x) same.1,
        ap (λ (x : ℕ). rank_of (set layers (pair_at pairs i).1 top) x) same.1,
      )
      | inr apart ↦ omega (arith, other w apart.1)
    ] in
    record {
      walked = HasPassed-step pairs u i next (λ w. above ≤ rank_of layers w) (λ w. above ≤ rank_of (set layers (pair_at pairs i).1 top) w) r.walked first
          (λ w le. omega (arith, le, grown w)) (omega (arith, here, is));
      no_lower = λ w. omega (arith, r.no_lower w, grown w);
      from = λ w. elim (eqb_tells w (pair_at pairs i).1) [
        | inl same ↦
            let at : rank_of (set layers (pair_at pairs i).1 top) w ≡ top =
            ap (λ (x : ℕ). rank_of (set layers (pair_at pairs i).1 top) x) same.1 ∙ here in
            let was : rank_of layers w ≡ rank_of layers (pair_at pairs i).1 = ap (λ (x : ℕ). rank_of layers x) same.1 in
            elim (cases_lt (rank_of layers (pair_at pairs i).1) above) [
              | inl lower ↦
                  inr (HasPassed-here pairs u i w (λ x. above ≤ rank_of layers x) r.walked same.1, omega (arith, at, is, lower))
              | inr higher ↦
                  let kept : rank_of (set layers (pair_at pairs i).1 top) w ≡ rank_of layers w = omega (arith, at, is, higher, was) in
                  elim (r.from w) [
                    | inl old_one ↦ inl (kept ∙ old_one)
                    | inr new_one ↦ inr (new_one.0, kept ∙ new_one.1)
                  ]
            ]
        | inr apart ↦ elim (r.from w) [
          | inl old_one ↦ inl (other w apart.1 ∙ old_one)
          | inr new_one ↦ inr (new_one.0, other w apart.1 ∙ new_one.1)
        ]
      ];
    }

-- The routers of the order

-- the layers where the routers at the first k places have raised those after them
pub record AreRaised (pairs : List Pair) (order layers : List ℕ) (k : ℕ) : Type 0 where
  pub above : (j : ℕ) → j < k → (v : ℕ) → Contains pairs (get_or order j 0, v) → rank_of layers (get_or order j 0) + 1 ≤ rank_of layers v
  pub from : (v : ℕ) → (rank_of layers v ≡ 0) ⊎ ((j : ℕ) × (j < k) × Contains pairs (get_or order j 0, v) ×
      (rank_of layers v ≡ rank_of layers (get_or order j 0) + 1))
  pub low : (v : ℕ) → rank_of layers v ≤ k

pub AreRaised-begin : (pairs : List Pair) (order layers : List ℕ) → ((v : ℕ) → rank_of layers v ≡ 0) → AreRaised pairs order layers 0
AreRaised-begin pairs order layers bare = grind (arith, common_steps)

pub AreRaised-step : (n : ℕ) (pairs : List Pair) (order old layers : List ℕ) (k : ℕ) → IsTopological n pairs order → k < n →
    AreRaised pairs order old k → ((v : ℕ) → rank_of old v ≤ rank_of layers v) → ((v : ℕ) → Contains pairs (get_or order k 0, v) →
    rank_of old (get_or order k 0) + 1 ≤ rank_of layers v)
    → ((v : ℕ) → (rank_of layers v ≡ rank_of old v) ⊎
    (Contains pairs (get_or order k 0, v) × (rank_of layers v ≡ rank_of old (get_or order k 0) + 1))) → AreRaised pairs order layers (k + 1)
AreRaised-step n pairs order old layers k sorted k_in raised no_lower above from = record {
  above = λ j lt v has. elim (cases_lt j k) [
    | inl before ↦ omega (arith, raised.above j before v has, no_lower v, still j lt)
    | inr end ↦
        let same : j ≡ k = omega (arith, end, lt) in
        let here = above v (subst (λ (x : ℕ). Contains pairs (get_or order x 0, v)) same has) in
        omega (arith, here, still j lt, ap (λ (x : ℕ). rank_of old (get_or order x 0)) same)
  ];
  from = λ v. elim (from v) [
    | inl same ↦ elim (raised.from v) [
      | inl bare ↦ inl (same ∙ bare)
      | inr by ↦ inr (by.0, omega (arith, by.1), by.2, omega (arith, same, by.3, still by.0 (omega (arith, by.1))))
    ]
    | inr new ↦ inr (k, omega arith, new.0, omega (arith, new.1, still k (omega arith)))
  ];
  low = λ v. elim (from v) [
    | inl same ↦ omega (arith, same, raised.low v)
    | inr new ↦ omega (arith, new.1, raised.low (get_or order k 0))
  ];
}
  where
    still : (j : ℕ) → j < k + 1 → rank_of layers (get_or order j 0) ≡ rank_of old (get_or order j 0)
    still j lt = elim (from (get_or order j 0)) [
      | inl same ↦ same
      | inr new ↦
          let stands = sorted.after j (omega (arith, lt, k_in)) (get_or order k 0) new.0 in
          absurd (sorted.distinct stands.0 k (omega (arith, stands.1, lt)) k_in stands.2)
    ]

-- in the end they are the layers
pub AreLayers-raised : (n : ℕ) (pairs : List Pair) (order layers : List ℕ) → AreBelow n pairs → IsTopological n pairs order →
    AreRaised pairs order layers n → length layers ≡ n → AreLayers n pairs layers
AreLayers-raised n pairs order layers below sorted raised long = record {
  whole = long;
  each = λ v v_in. elim (raised.from v) [
    | inl bare ↦ inl (bare, λ u has. omega (arith, bare, over u v has))
    | inr by ↦ inr (get_or order by.0 0, record { before = by.2; highest = λ q has. omega (arith, by.3, over q v has) }, by.3)
  ];
}
  where
    over : (u v : ℕ) → Contains pairs (u, v) → rank_of layers u + 1 ≤ rank_of layers v
    over u v has =
        let at = sorted.all u (pair_below n pairs below u v has).0 in
        let e : get_or order at.0 0 ≡ u = at.2 in
        subst (λ (x : ℕ). rank_of layers x + 1 ≤ rank_of layers v) e (raised.above at.0 at.1 v (subst (λ (x : ℕ). Contains pairs (x, v)) (sym e) has))
