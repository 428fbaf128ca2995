-- The chain of the layers, traced from its last router back by the parents.
use Rattle.std.proofs.lemmas.Grind.{common_steps}
use Rattle.std.proofs.Common.{◌≡◌, ◌≢◌, ℕ, zero, suc, ◌+◌, ◌-◌, ◌<◌, ◌≤◌, ◌⊎◌, inl, inr, List, length, get_or, set, min}
use Rattle.std.proofs.Common.{take, arith, subst, sym, ap, ◌∙◌}
use Rattle.std.specs.List.{Contains}
use Rattle.std.proofs.lemmas.Bool.{cases_lt}
use Rattle.std.proofs.lemmas.Bool.Decides.{eqb_tells}
use Rattle.std.proofs.lemmas.List.{get_or-set_same, get_or-set_other, get_or_default, get_or_past, get_or-take, length-take-le}
use Rattle.std.proofs.lemmas.List.Elements.{Contains-get_or}
use Rattle.order_core.specs.Least.{IsLowest}
use Rattle.order_core.specs.Pairs.{Pair, AreBelow}
use Rattle.order_core.specs.Rankings.{rank_of, wave_count}
use Rattle.order_core.proofs.WaveLists.{rank_below_count, rank_stands, count_le_length}
use Rattle.precedence_set.specs.steps.Walking.{pair_at}
use Rattle.precedence_set.specs.steps.Chaining.{Parents, Trace, parents_in, trace}
use Rattle.precedence_set.specs.Layers.{AreLayers, IsChain, IsInLayer, IsBeforeInLayer}
use Rattle.precedence_set.proofs.LayerFacts.{pair_below, layers_rank}

-- Parents

-- the lowest predecessors in the layer before, among the first i pairs; `none` where there is none yet
pub record AreParents (pairs : List Pair) (p : Parents) (i : ℕ) : Type 0 where
  pub lowest : (j : ℕ) → j < i → rank_of p.layers (pair_at pairs j).0 + 1 ≡ rank_of p.layers (pair_at pairs j).1 →
      get_or p.parents (pair_at pairs j).1 0 ≤ (pair_at pairs j).0
  pub found : (v : ℕ) → v < length p.layers → (get_or p.parents v 0 ≡ p.none) ⊎
      (Contains pairs (get_or p.parents v 0, v) × (rank_of p.layers (get_or p.parents v 0) + 1 ≡ rank_of p.layers v))

pub AreParents-begin : (pairs : List Pair) (layers parents : List ℕ) (none : ℕ) → length parents ≡ length layers →
    ((v : ℕ) → v < length parents → get_or parents v 0 ≡ none) → AreParents pairs (parents_in layers parents none) 0
AreParents-begin pairs layers parents none long bare = grind (arith, common_steps)

pub AreParents-passed : (pairs : List Pair) (layers parents : List ℕ) (none i : ℕ) → AreParents pairs (parents_in layers parents none) i →
    rank_of layers (pair_at pairs i).0 + 1 ≢ rank_of layers (pair_at pairs i).1 → AreParents pairs (parents_in layers parents none) (i + 1)
AreParents-passed pairs layers parents none i are apart = record {
  lowest = λ j lt next. elim (cases_lt j i) [
    | inl before ↦ are.lowest j before next
    | inr end ↦
        let same : j ≡ i = omega (arith, end, lt) in
        absurd (apart (subst (λ (k : ℕ). rank_of layers (pair_at pairs k).0 + 1 ≡ rank_of layers (pair_at pairs k).1) same next))
  ];
  found = are.found;
}

pub AreParents-more : (pairs : List Pair) (layers parents : List ℕ) (none i low : ℕ) → AreParents pairs (parents_in layers parents none) i →
    i < length pairs →
    (pair_at pairs i).1 < length parents → rank_of layers (pair_at pairs i).0 + 1 ≡ rank_of layers (pair_at pairs i).1 →
    low ≡ min (get_or parents (pair_at pairs i).1 0) (pair_at pairs i).0 →
    AreParents pairs (parents_in layers (set parents (pair_at pairs i).1 low) none) (i + 1)
AreParents-more pairs layers parents none i low are i_in v_in next is =
    let here : get_or (set parents (pair_at pairs i).1 low) (pair_at pairs i).1 0 ≡ low = get_or-set_same parents (pair_at pairs i).1 low 0 v_in in
    let other : (w : ℕ) → w ≢ (pair_at pairs i).1 → get_or (set parents (pair_at pairs i).1 low) w 0 ≡ get_or parents w 0 =
    λ w (apart : w ≢ (pair_at pairs i).1). get_or-set_other parents (pair_at pairs i).1 w low 0 apart in
    record {
      lowest = λ j lt before_one. elim (eqb_tells (pair_at pairs j).1 (pair_at pairs i).1) [
        | inl same ↦
            let at : get_or (set parents (pair_at pairs i).1 low) (pair_at pairs j).1 0 ≡ low =
            ap (λ (x : ℕ). get_or (set parents (pair_at pairs i).1 low) x 0) same.1 ∙ here in
            elim (cases_lt j i) [
              | inl before ↦ omega (arith, at, is, are.lowest j before before_one, ap (λ (x : ℕ). get_or parents x 0) same.1)
              | inr end ↦
                  let last : j ≡ i = omega (arith, end, lt) in
                  omega (arith, at, is, ap (λ (k : ℕ). (pair_at pairs k).0) last)
            ]
        | inr apart ↦ elim (cases_lt j i) [
          | inl before ↦ omega (arith, other (pair_at pairs j).1 apart.1, are.lowest j before before_one)
          | inr end ↦ absurd (apart.1 (ap (λ (k : ℕ). (pair_at pairs k).1) (let last : j ≡ i = omega (arith, end, lt) in last)))
        ]
      ];
      found = λ w w_in. elim (eqb_tells w (pair_at pairs i).1) [
        | inl same ↦
            let at : get_or (set parents (pair_at pairs i).1 low) w 0 ≡ low =
            ap (λ (x : ℕ). get_or (set parents (pair_at pairs i).1 low) x 0) same.1 ∙ here in
            elim (cases_lt (get_or parents (pair_at pairs i).1 0) (pair_at pairs i).0) [
              | inl lower ↦
                  let kept : get_or (set parents (pair_at pairs i).1 low) w 0 ≡ get_or parents w 0 =
                  omega (arith, at, is, lower, ap (λ (x : ℕ). get_or parents x 0) same.1) in
                  elim (are.found w w_in) [
                    | inl bare ↦ inl (kept ∙ bare)
                    | inr by ↦ inr (subst (λ (x : ℕ). Contains pairs (x, w)) (sym kept) by.0, ap (λ (x : ℕ). rank_of layers x + 1) kept ∙ by.1)
                  ]
              | inr higher ↦
                  let new : get_or (set parents (pair_at pairs i).1 low) w 0 ≡ (pair_at pairs i).0 = omega (arith, at, is, higher) in
                  let pair : pair_at pairs i ≡ (get_or (set parents (pair_at pairs i).1 low) w 0, w) =
                  ap (λ (a : ℕ). (a, (pair_at pairs i).1)) (sym new)
                  ∙ ap (λ (b : ℕ). (get_or (set parents (pair_at pairs i).1 low) w 0, b)) (sym same.1) in
                  inr (
                    subst (λ (p : Pair). Contains pairs p) pair (Contains-get_or pairs i (0, 0) i_in),
                    ap (λ (x : ℕ). rank_of layers x + 1) new ∙ next
                        ∙ ap (λ (x : ℕ). rank_of layers x) (sym same.1),
                  )
            ]
        | inr apart ↦ elim (are.found w w_in) [
          | inl bare ↦ inl (other w apart.1 ∙ bare)
          | inr by ↦ inr (
            subst (λ (x : ℕ). Contains pairs (x, w)) (sym (other w apart.1)) by.0,
            ap (λ (x : ℕ). rank_of layers x + 1) (other w apart.1)
                ∙ by.1,
          )
        ]
      ];
    }

-- in the end no predecessor in the layer before is lower
pub parents_lowest : (pairs : List Pair) (layers parents : List ℕ) (none i : ℕ) → AreParents pairs (parents_in layers parents none) i → length pairs ≤ i →
    (u v : ℕ) → Contains pairs (u, v) → rank_of layers u + 1 ≡ rank_of layers v → get_or parents v 0 ≤ u
parents_lowest pairs layers parents none i are whole u v has next =
    let e : pair_at pairs has.0 ≡ (u, v) = get_or_default pairs has.0 (0, 0) (u, v) has.1 ∙ has.2 in
    let e₀ : (pair_at pairs has.0).0 ≡ u = ap (λ (p : Pair). p.0) e in
    let e₁ : (pair_at pairs has.0).1 ≡ v = ap (λ (p : Pair). p.1) e in
    let step : rank_of layers (pair_at pairs has.0).0 + 1 ≡ rank_of layers (pair_at pairs has.0).1 =
    ap (λ (x : ℕ). rank_of layers x + 1) e₀ ∙ next ∙ ap (λ (x : ℕ). rank_of layers x) (sym e₁) in
    let low = are.lowest has.0 (omega (arith, has.1, whole)) step in
    omega (arith, low, e₀, ap (λ (x : ℕ). get_or parents x 0) e₁)

-- the parent of a router that isn't in the first layer
pub parent_is : (n : ℕ) (pairs : List Pair) (layers parents : List ℕ) (none v k : ℕ) → AreBelow n pairs → AreLayers n pairs layers → n ≤ none →
    ((u w : ℕ) → Contains pairs (u, w) → rank_of layers u + 1 ≡ rank_of layers w → get_or parents w 0 ≤ u) →
    ((w : ℕ) → w < length layers → (get_or parents w 0 ≡ none) ⊎
    (Contains pairs (get_or parents w 0, w) × (rank_of layers (get_or parents w 0) + 1 ≡ rank_of layers w))) → v < n → rank_of layers v ≡ suc k →
    IsLowest (IsBeforeInLayer pairs layers k v) (get_or parents v 0)
parent_is n pairs layers parents none v k below are many lowest found v_in there = elim (are.each v v_in) [
  | inl bare ↦ absurd (omega (arith, bare.0, there))
  | inr above ↦ elim (found v (omega (arith, v_in, are.whole))) [
    | inl without_level_one ↦
        let u_in = (pair_below n pairs below above.0 v above.1.before).0 in
        absurd (omega (arith, without_level_one, u_in, many, lowest above.0 v above.1.before (sym above.2)))
    | inr by ↦ record {
      holds = record { before = by.0; there = omega (arith, by.1, there) };
      least = λ q q_is. lowest q v q_is.before (omega (arith, q_is.there, there));
    }
  ]
]

-- The chain

-- the chain from place k on
pub record IsTraced (n : ℕ) (pairs : List Pair) (t : Trace) (k : ℕ) : Type 0 where
  pub before : k < t.count
  pub last : (j : ℕ) → suc j ≡ t.count → IsLowest (IsInLayer t.layers j) (get_or t.out j 0)
  pub back : (j : ℕ) → k ≤ j → suc j < t.count → IsLowest (IsBeforeInLayer pairs t.layers j (get_or t.out (suc j) 0)) (get_or t.out j 0)
  pub below : (j : ℕ) → k ≤ j → j < t.count → get_or t.out j 0 < n
  pub there : (j : ℕ) → k ≤ j → j < t.count → rank_of t.layers (get_or t.out j 0) ≡ j

-- some router is in the last layer
pub some_in_last : (n : ℕ) (pairs : List Pair) (layers : List ℕ) (k : ℕ) → AreBelow n pairs → AreLayers n pairs layers →
    suc k ≡ wave_count layers → (u : ℕ) × IsInLayer layers k u
some_in_last n pairs layers k below are e =
    let has = rank_stands n layers k (layers_rank n pairs layers below are) (omega (arith, e)) in
    (has.0, record { within = has.1; there = get_or_default layers has.0 0 k has.1 ∙ has.2 })

pub IsTraced-begin : (n : ℕ) (pairs : List Pair) (layers out : List ℕ) (k u : ℕ) → length layers ≡ n → IsLowest (IsInLayer layers k) u →
    k < length out → IsTraced n pairs (trace layers (set out k u) (suc k)) k
IsTraced-begin n pairs layers out k u long lowest k_in = grind (arith, common_steps, get_or-set_same)

pub IsTraced-back : (n : ℕ) (pairs : List Pair) (layers out : List ℕ) (count k u : ℕ) → AreBelow n pairs →
    IsTraced n pairs (trace layers out count) (suc k) → k < length out → IsLowest (IsBeforeInLayer pairs layers k (get_or out (suc k) 0)) u →
    IsTraced n pairs (trace layers (set out k u) count) k
IsTraced-back n pairs layers out count k u pairs_below t k_in lowest =
    let here : get_or (set out k u) k 0 ≡ u = get_or-set_same out k u 0 k_in in
    let later : (j : ℕ) → k < j → get_or (set out k u) j 0 ≡ get_or out j 0 = λ j (lt : k < j). let apart : j ≢ k = omega (arith, lt) in
    get_or-set_other out k j u 0 apart in
    record {
      before = omega (arith, t.before);
      last = λ j e. subst (λ (x : ℕ). IsLowest (IsInLayer layers j) x) (sym (later j (omega (arith, e, t.before)))) (t.last j e);
      back = λ j le lt. elim (cases_lt k j) [
        | inl after ↦
            subst (λ (x : ℕ). IsLowest (IsBeforeInLayer pairs layers j x) (get_or (set out k u) j 0)) (sym (later (suc j) (omega (arith, after))))
            (subst (λ (x : ℕ). IsLowest (IsBeforeInLayer pairs layers j (get_or out (suc j) 0)) x) (sym (later j after))
            (t.back j (omega (arith, after)) lt))
        | inr end ↦
            let same : k ≡ j = omega (arith, end, le) in
            subst (λ (i : ℕ). IsLowest (IsBeforeInLayer pairs layers i (get_or (set out k u) (suc i) 0)) (get_or (set out k u) i 0)) same
            (subst (λ (x : ℕ). IsLowest (IsBeforeInLayer pairs layers k x) (get_or (set out k u) k 0)) (sym (later (suc k) (omega arith)))
            (subst (λ (x : ℕ). IsLowest (IsBeforeInLayer pairs layers k (get_or out (suc k) 0)) x) (sym here) lowest))
      ];
      below = λ j le lt. elim (cases_lt k j) [
        | inl after ↦ omega (arith, later j after, t.below j (omega (arith, after)) lt)
        | inr end ↦
            let same : j ≡ k = omega (arith, end, le) in
            let u_in = (pair_below n pairs pairs_below u (get_or out (suc k) 0) lowest.holds.before).0 in
            omega (arith, ap (λ (x : ℕ). get_or (set out k u) x 0) same, here, u_in)
      ];
      there = λ j le lt. elim (cases_lt k j) [
        | inl after ↦ ap (λ (x : ℕ). rank_of layers x) (later j after) ∙ t.there j (omega (arith, after)) lt
        | inr end ↦
            let same : j ≡ k = omega (arith, end, le) in
            ap (λ (x : ℕ). rank_of layers (get_or (set out k u) x 0)) same ∙ ap (λ (x : ℕ). rank_of layers x) here ∙ lowest.holds.there ∙ sym same
      ];
    }

-- the whole chain
pub IsChain-traced : (n : ℕ) (pairs : List Pair) (layers out : List ℕ) (count : ℕ) → IsTraced n pairs (trace layers out count) 0 →
    count ≡ wave_count layers → count ≤ length out → IsChain pairs layers (take count out)
IsChain-traced n pairs layers out count t counted le = grind (arith, common_steps, get_or-take, length-take-le)

-- no router has no chain
pub IsChain-none : (pairs : List Pair) (layers out : List ℕ) (count : ℕ) → count ≡ 0 → count ≡ wave_count layers →
    IsChain pairs layers (take count out)
IsChain-none pairs layers out count none counted = grind (arith, common_steps, length-take-le)

-- Lowest of a layer

-- there are no more layers than routers, and no rank is higher
pub count_few : (n : ℕ) (pairs : List Pair) (layers : List ℕ) → AreBelow n pairs → AreLayers n pairs layers → wave_count layers ≤ length layers
count_few n pairs layers below are = count_le_length n layers (layers_rank n pairs layers below are)

pub rank_few : (n : ℕ) (pairs : List Pair) (layers : List ℕ) → AreBelow n pairs → AreLayers n pairs layers → (u : ℕ) →
    rank_of layers u ≤ length layers
rank_few n pairs layers below are u = elim (cases_lt u (length layers)) [
  | inl lt ↦ omega (arith, rank_below_count layers (rank_of layers u) (Contains-get_or layers u 0 lt), count_few n pairs layers below are)
  | inr ge ↦ omega (arith, get_or_past layers u 0 ge)
]

-- one step back along the parents
pub IsTraced-down : (n : ℕ) (pairs : List Pair) (layers out parents : List ℕ) (none count k : ℕ) → AreBelow n pairs → AreLayers n pairs layers →
    n ≤ none → ((u w : ℕ) → Contains pairs (u, w) → rank_of layers u + 1 ≡ rank_of layers w → get_or parents w 0 ≤ u) →
    ((w : ℕ) → w < length layers → (get_or parents w 0 ≡ none) ⊎
    (Contains pairs (get_or parents w 0, w) × (rank_of layers (get_or parents w 0) + 1 ≡ rank_of layers w)))
    → count ≤ length out → 0 < k → IsTraced n pairs (trace layers out count) k →
    IsTraced n pairs (trace layers (set out (k - 1) (get_or parents (get_or out (k - 1 + 1) 0) 0)) count) (k - 1)
IsTraced-down n pairs layers out parents none count zero below are many lowest found le some t = absurd (omega (arith, some))
IsTraced-down n pairs layers out parents none count (suc k) below are many lowest found le some t =
    let down : k ≡ suc k - 1 = omega arith in
    let up : suc k ≡ k + 1 = omega arith in
    let parent = parent_is n pairs layers parents none (get_or out (suc k) 0) k below are many lowest found (t.below (suc k) (omega arith) t.before)
    (t.there (suc k) (omega arith) t.before) in
    subst (λ (j : ℕ). IsTraced n pairs (trace layers (set out j (get_or parents (get_or out (j + 1) 0) 0)) count) j) down
    (subst (λ (j : ℕ). IsTraced n pairs (trace layers (set out k (get_or parents (get_or out j 0) 0)) count) k) up
    (IsTraced-back n pairs layers out count k (get_or parents (get_or out (suc k) 0) 0) below t (omega (arith, t.before, le)) parent))
