-- Layers: a ranking that keeps the pairs, the lowest of all, and the only one; and chains.
use Rattle.std.proofs.Common.{◌≡◌, ℕ, zero, suc, ◌+◌, ◌<◌, ◌≤◌, inl, inr, List, [], ◌∷◌, length, get_or, arith, subst, sym, refl}
use Rattle.std.proofs.Common.{◌∙◌}
use Rattle.std.specs.List.{Contains}
use Rattle.std.proofs.lemmas.Bool.{cases_lt}
use Rattle.std.proofs.lemmas.List.{ext_get_or, get_or_default}
use Rattle.std.proofs.lemmas.List.Elements.{All-contains, Contains-get_or}
use Rattle.order_core.specs.Pairs.{Pair, AreBelow}
use Rattle.order_core.specs.Rankings.{IsRanking, KeepsPairs, rank_of, wave_count}
use Rattle.precedence_set.specs.Layers.{AreLayers, IsBeforeInLayer, IsChain}
use Rattle.precedence_set.specs.steps.Walking.{pair_at}

-- the routers of a pair are below n
pub pair_below : (n : ℕ) (pairs : List Pair) → AreBelow n pairs → (u v : ℕ) → Contains pairs (u, v) → (u < n) × (v < n)
pair_below n pairs below u v has = All-contains (λ (p : Pair). (p.0 < n) × (p.1 < n)) pairs (u, v) below has

-- layers rise along each pair
pub layers_keep : (n : ℕ) (pairs : List Pair) (layers : List ℕ) → AreBelow n pairs → AreLayers n pairs layers → KeepsPairs layers pairs
layers_keep n pairs layers below are p has = elim (are.each p.1 (pair_below n pairs below p.0 p.1 has).1) [
  | inl none ↦ absurd (none.1 p.0 has)
  | inr above ↦ omega (arith, above.2, above.1.highest p.0 has)
]

-- with a router of a layer there is one of each layer below
layer_below : (n : ℕ) (pairs : List Pair) (layers : List ℕ) → AreBelow n pairs → AreLayers n pairs layers → (r v : ℕ) → v < n →
    rank_of layers v ≡ r → (w : ℕ) → w ≤ r → (u : ℕ) × (u < n) × (rank_of layers u ≡ w)
layer_below n pairs layers below are zero v v_in e w le = (v, v_in, omega (arith, e, le))
layer_below n pairs layers below are (suc r) v v_in e w le = elim (cases_lt w (suc r)) [
  | inl lt ↦ elim (are.each v v_in) [
    | inl none ↦ absurd (omega (arith, none.0, e))
    | inr above ↦ layer_below n pairs layers below are r above.0 (pair_below n pairs below above.0 v above.1.before).0
        (omega (arith, above.2, e)) w (omega (arith, lt))
  ]
  | inr ge ↦ (v, v_in, omega (arith, e, ge, le))
]

pub layers_rank : (n : ℕ) (pairs : List Pair) (layers : List ℕ) → AreBelow n pairs → AreLayers n pairs layers → IsRanking n layers
layers_rank n pairs layers below are = record {
  each = are.whole;
  whole = λ w r le has.
      let e : get_or layers has.0 0 ≡ r = get_or_default layers has.0 0 r has.1 ∙ has.2 in
      let found = layer_below n pairs layers below are r has.0 (omega (arith, has.1, are.whole)) e w le in
      subst (λ (x : ℕ). Contains layers x) found.2 (Contains-get_or layers found.0 0 (omega (arith, found.1, are.whole)));
}

-- a ranking that keeps the pairs has each router at its layer or higher
pub layers_earliest : (n : ℕ) (pairs : List Pair) (layers ranks : List ℕ) → AreBelow n pairs → AreLayers n pairs layers → KeepsPairs ranks pairs →
    (v : ℕ) → v < n → rank_of layers v ≤ rank_of ranks v
layers_earliest n pairs layers ranks below are keeps v v_in = climb (rank_of layers v) v v_in refl
  where
    climb : (r v : ℕ) → v < n → rank_of layers v ≡ r → rank_of layers v ≤ rank_of ranks v
    climb zero v v_in e = omega (arith, e)
    climb (suc r) v v_in e = elim (are.each v v_in) [
      | inl none ↦ absurd (omega (arith, none.0, e))
      | inr above ↦
          let before = climb r above.0 (pair_below n pairs below above.0 v above.1.before).0 (omega (arith, above.2, e)) in
          omega (arith, before, above.2, keeps (above.0, v) above.1.before)
    ]

wave_count_le : (xs ys : List ℕ) → length xs ≡ length ys → ((i : ℕ) → i < length xs → get_or xs i 0 ≤ get_or ys i 0) →
    wave_count xs ≤ wave_count ys
wave_count_le [] ys e le = omega arith
wave_count_le (x ∷ xs) [] e le = absurd (omega (arith, e))
wave_count_le (x ∷ xs) (y ∷ ys) e le =
    let first : x ≤ y = le 0 (omega arith) in
    omega (arith, first, wave_count_le xs ys (omega (arith, e)) (λ i lt. le (suc i) (omega (arith, lt))))

pub layers_fewest : (n : ℕ) (pairs : List Pair) (layers ranks : List ℕ) → AreBelow n pairs → AreLayers n pairs layers → length ranks ≡ n →
    KeepsPairs ranks pairs → wave_count layers ≤ wave_count ranks
layers_fewest n pairs layers ranks below are long keeps =
    wave_count_le layers ranks (are.whole ∙ sym long) (λ i lt. layers_earliest n pairs layers ranks below are keeps i (omega (arith, lt, are.whole)))

-- so there is one list of layers
pub layers_unique : (n : ℕ) (pairs : List Pair) (layers others : List ℕ) → AreBelow n pairs → AreLayers n pairs layers →
    AreLayers n pairs others → layers ≡ others
layers_unique n pairs layers others below are too =
    ext_get_or 0 layers others (are.whole ∙ sym too.whole) (λ i lt.
    let i_in : i < n = omega (arith, lt, are.whole) in
    omega (
      arith,
      layers_earliest n pairs layers others below are (layers_keep n pairs others below too) i i_in,
      layers_earliest n pairs others layers below too (layers_keep n pairs layers below are) i i_in,
    ))

-- layers have one chain: its last router is known, and each by the one after it
pub chain_unique : (pairs : List Pair) (layers chain other : List ℕ) → IsChain pairs layers chain → IsChain pairs layers other → chain ≡ other
chain_unique pairs layers chain other is too =
    ext_get_or 0 chain other (is.one_each ∙ sym too.one_each) (λ i lt. down (length chain) i (omega (arith, lt)) lt)
  where
    long : length chain ≡ length other
    long = is.one_each ∙ sym too.one_each

    down : (m i : ℕ) → length chain ≤ i + m → i < length chain → get_or chain i 0 ≡ get_or other i 0
    down zero i le lt = absurd (omega (arith, le, lt))
    down (suc m) i le lt = elim (cases_lt (suc i) (length chain)) [
      | inl more ↦
          let next : get_or chain (suc i) 0 ≡ get_or other (suc i) 0 = down m (suc i) (omega (arith, le)) more in
          let a = is.back i more in
          let b = too.back i (omega (arith, more, long)) in
          omega (
            arith,
            a.least (get_or other i 0) (subst (λ (x : ℕ). IsBeforeInLayer pairs layers i x (get_or other i 0)) (sym next) b.holds),
            b.least (get_or chain i 0) (subst (λ (x : ℕ). IsBeforeInLayer pairs layers i x (get_or chain i 0)) next a.holds),
          )
      | inr end ↦
          let a = is.last i (omega (arith, end, lt)) in
          let b = too.last i (omega (arith, end, lt, long)) in
          omega (arith, a.least (get_or other i 0) b.holds, b.least (get_or chain i 0) a.holds)
    ]

-- and so are those of the pair at a place
pub pair_at_below : (n : ℕ) (pairs : List Pair) → AreBelow n pairs → (i : ℕ) → i < length pairs → ((pair_at pairs i).0 < n) ×
    ((pair_at pairs i).1 < n)
pair_at_below n pairs below i lt = pair_below n pairs below (pair_at pairs i).0 (pair_at pairs i).1 (Contains-get_or pairs i (0, 0) lt)
