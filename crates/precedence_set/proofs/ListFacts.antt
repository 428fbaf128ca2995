-- Routers listed one after another: each new one, and that all are listed in the end.
use Rattle.std.proofs.lemmas.Grind.{common_steps}
use Rattle.std.proofs.Common.{◌≡◌, ◌≢◌, ℕ, zero, suc, ◌+◌, ◌-◌, ◌<◌, ◌≤◌, ◌↔◌, ◌⊎◌, inl, inr, List, [], ◌∷◌}
use Rattle.std.proofs.Common.{length, length-set, get_or, set, take, Option, Some, None, below_more, arith, subst, sym, refl, ap, ◌∙◌}
use Rattle.std.specs.List.{AllPairs, All, Contains}
use Rattle.std.specs.Cmp.{nat_eq_equiv}
use Rattle.std.proofs.lemmas.Bool.{false≢true, cases_lt}
use Rattle.std.proofs.lemmas.Bool.Decides.{eqb_tells}
use Rattle.std.proofs.lemmas.List.{get_or-set_same, get_or-set_other, get_or_default, get_or-take, length-take-le}
use Rattle.std.proofs.lemmas.List.Elements.{All-cons, All-from_get_or, Contains-get_or}
use Rattle.std.proofs.lemmas.Map.Steps.{le-length_from_below}
use Rattle.std.proofs.lemmas.Map.Views.{list_any-from_Contains}
use Rattle.order_core.specs.Pairs.{Pair, IsPath, AreBelow, HasNoCycle}
use Rattle.order_core.proofs.DistinctLists.{AllPairs-cons, length-le_from_distinct, Contains-from_distinct, place_from_Contains}
use Rattle.order_core.proofs.Paths.{length-path}
use Rattle.precedence_set.specs.steps.Walking.{pair_at, IsFirstFrom}
use Rattle.precedence_set.specs.steps.Sorting.{StandsBelow, AreFree, AreLeftCounts, IsGone, IsGoneBy, IsListing, IsTopological, Queue, Stop}
use Rattle.precedence_set.specs.steps.Sorting.{passing, queue, stop}
use Rattle.precedence_set.proofs.LayerFacts.{pair_below}
use Rattle.precedence_set.proofs.SortFacts.{AreLeftCounts-same, AreLeftCounts-gone, left_none, left_some}

-- Places of a list

-- the first places of two lists are the same
abbrev pub IsFront : ℕ → List ℕ → List ℕ → Type 0
IsFront count a b = (j : ℕ) → j < count → get_or a j 0 ≡ get_or b j 0

pub IsFront-set : (order : List ℕ) (count v : ℕ) → IsFront count (set order count v) order
IsFront-set order count v j lt = let apart : j ≢ count = omega (arith, lt) in get_or-set_other order count j v 0 apart

pub stands_still : (a b : List ℕ) (count k u : ℕ) → IsFront count a b → k ≤ count → StandsBelow b k u → StandsBelow a k u
stands_still a b count k u front le stands = (stands.0, stands.1, front stands.0 (omega (arith, stands.1, le)) ∙ stands.2)

front_back : (a b : List ℕ) (count : ℕ) → IsFront count a b → IsFront count b a
front_back a b count front j lt = sym (front j lt)

-- whether a router stands at one of the first places
stands_cases : (order : List ℕ) (k u : ℕ) → StandsBelow order k u ⊎ (¬ StandsBelow order k u)
stands_cases order zero u = inr (λ stands. omega (arith, stands.1))
stands_cases order (suc k) u = elim (eqb_tells (get_or order k 0) u) [
  | inl here ↦ inl (k, omega arith, here.1)
  | inr apart ↦ elim (stands_cases order k u) [
    | inl before ↦ inl (before.0, omega (arith, before.1), before.2)
    | inr none ↦ inr (λ stands. elim (eqb_tells stands.0 k) [
      | inl same ↦ apart.1 (ap (λ (i : ℕ). get_or order i 0) (sym same.1) ∙ stands.2)
      | inr other ↦ none (stands.0, omega (arith, stands.1, other.1), stands.2)
    ])
  ]
]

front_list : (n : ℕ) (order : List ℕ) (count : ℕ) → count ≤ length order →
    ((i j : ℕ) → i < j → j < count → get_or order i 0 ≢ get_or order j 0) → AllPairs (λ u v. u ≢ v) (take count order)
front_list n order count le distinct i j d lt within same =
    let long = length-take-le count order le in
    let j_lt : j < count = omega (arith, within, long) in
    let a = get_or-take count order i d (omega (arith, lt, j_lt)) ∙ get_or_default order i d 0 (omega (arith, lt, j_lt, le)) in
    let b = get_or-take count order j d j_lt ∙ get_or_default order j d 0 (omega (arith, j_lt, le)) in
    distinct i j lt j_lt (sym a ∙ same ∙ b)

front_below : (n : ℕ) (order : List ℕ) (count : ℕ) → count ≤ length order → ((j : ℕ) → j < count → get_or order j 0 < n) →
    All (λ u. u < n) (take count order)
front_below n order count le below = All-from_get_or (λ u. u < n) (take count order) 0 (λ i lt.
    let i_lt : i < count = omega (arith, lt, length-take-le count order le) in
    subst (λ (x : ℕ). x < n) (sym (get_or-take count order i 0 i_lt)) (below i i_lt))

-- there is room for one more router
pub room_for : (n : ℕ) (pairs : List Pair) (counts order : List ℕ) (count v : ℕ) → IsListing n pairs (queue counts order count) → count ≤ length order →
    v < n → 0 < get_or counts v 0 → count < n
room_for n pairs counts order count v listing le v_in some =
    let long = length-take-le count order le in
    let all = length-le_from_distinct (v ∷ take count order) n
    (AllPairs-cons (λ u w. u ≢ w) v (take count order) (λ j d j_in same.
    let j_lt : j < count = omega (arith, j_in, long) in
    let at : v ≡ get_or order j 0 = same ∙ get_or-take count order j d j_lt ∙ get_or_default order j d 0 (omega (arith, j_lt, le)) in
    let none = listing.none_left j j_lt in
    omega (arith, some, ap (λ (x : ℕ). get_or counts x 0) at, none))
    (front_list n order count le listing.distinct))
    (All-cons (λ u. u < n) v (take count order) v_in (front_below n order count le listing.below)) in
    omega (arith, all, long)

-- One router more

-- one more pair into v is gone, and more are left
pub IsListing-more : (n : ℕ) (pairs : List Pair) (counts new order order' : List ℕ) (count count' v : ℕ) → IsListing n pairs (queue counts order count) →
    v < length counts → 1 < get_or counts v 0 → new ≡ set counts v (get_or counts v 0 - 1) → order' ≡ order → count' ≡ count →
    IsListing n pairs (queue new order' count')
IsListing-more n pairs counts new order order' count count' v listing v_in some is same_order same_count =
    let value : get_or new v 0 ≡ get_or counts v 0 - 1 =
    ap (λ (xs : List ℕ). get_or xs v 0) is ∙ get_or-set_same counts v (get_or counts v 0 - 1) 0 v_in in
    let other : (w : ℕ) → w ≢ v → get_or new w 0 ≡ get_or counts w 0 = λ w (apart : w ≢ v). ap (λ (xs : List ℕ). get_or xs w 0) is
    ∙ get_or-set_other counts v w (get_or counts v 0 - 1) 0 apart in
    subst (λ (xs : List ℕ). IsListing n pairs (queue new xs count')) (sym same_order)
    (subst (λ (c : ℕ). IsListing n pairs (queue new order c)) (sym same_count) (record {
      below = listing.below;
      distinct = listing.distinct;
      none_left = λ j lt.
          let none = listing.none_left j lt in
          other (get_or order j 0) (λ e. omega (arith, some, none, ap (λ (x : ℕ). get_or counts x 0) e)) ∙ none;
      listed = λ w w_in none. elim (eqb_tells w v) [
        | inl same ↦ absurd (omega (arith, none, ap (λ (x : ℕ). get_or new x 0) same.1, value, some))
        | inr apart ↦ listing.listed w w_in (sym (other w apart.1) ∙ none)
      ];
      after = listing.after;
    }))

-- the last pair into v is gone, and v is listed
pub IsListing-last : (n : ℕ) (pairs : List Pair) (counts new order order' : List ℕ) (count count' v : ℕ) → IsListing n pairs (queue counts order count) →
    v < n → v < length counts → count < length order → get_or counts v 0 ≡ 1 → new ≡ set counts v (get_or counts v 0 - 1) →
    order' ≡ set order count v → count' ≡ count + 1 → ((u : ℕ) → Contains pairs (u, v) → StandsBelow order count u) →
    IsListing n pairs (queue new order' count')
IsListing-last n pairs counts new order order' count count' v listing v_n v_in room one is new_order new_count gone =
    let value : get_or new v 0 ≡ get_or counts v 0 - 1 =
    ap (λ (xs : List ℕ). get_or xs v 0) is ∙ get_or-set_same counts v (get_or counts v 0 - 1) 0 v_in in
    let other : (w : ℕ) → w ≢ v → get_or new w 0 ≡ get_or counts w 0 = λ w (apart : w ≢ v). ap (λ (xs : List ℕ). get_or xs w 0) is
    ∙ get_or-set_other counts v w (get_or counts v 0 - 1) 0 apart in
    let here : get_or (set order count v) count 0 ≡ v = get_or-set_same order count v 0 room in
    let front : IsFront count (set order count v) order = IsFront-set order count v in
    let apart : (j : ℕ) → j < count → get_or order j 0 ≢ v =
    λ j (lt : j < count) (e : get_or order j 0 ≡ v). omega (arith, one, ap (λ (x : ℕ). get_or counts x 0) e, listing.none_left j lt) in
    subst (λ (xs : List ℕ). IsListing n pairs (queue new xs count')) (sym new_order)
    (subst (λ (c : ℕ). IsListing n pairs (queue new (set order count v) c)) (sym new_count) (record {
      below = below_more (λ j. get_or (set order count v) j 0 < n) count (λ j lt. subst (λ (x : ℕ). x < n) (sym (front j lt)) (listing.below j lt))
          (subst (λ (x : ℕ). x < n) (sym here) v_n);
      distinct = λ i j lt j_lt same. elim (cases_lt j count) [
        | inl before ↦ listing.distinct i j lt before (sym (front i (omega (arith, lt, before))) ∙ same ∙ front j before)
        | inr end ↦
            let last : j ≡ count = omega (arith, end, j_lt) in
            apart i (omega (arith, lt, last)) (sym (front i (omega (arith, lt, last))) ∙ same ∙ ap (λ (x : ℕ). get_or (set order count v) x 0) last
            ∙ here)
      ];
      none_left = below_more (λ j. get_or new (get_or (set order count v) j 0) 0 ≡ 0) count
          (λ j lt. ap (λ (x : ℕ). get_or new x 0) (front j lt) ∙ other (get_or order j 0) (apart j lt) ∙ listing.none_left j lt)
          (ap (λ (x : ℕ). get_or new x 0) here ∙ omega (arith, value, one));
      listed = λ w w_in none. elim (eqb_tells w v) [
        | inl same ↦ (count, omega arith, here ∙ sym same.1)
        | inr away ↦
            let old = listing.listed w w_in (sym (other w away.1) ∙ none) in
            (old.0, omega (arith, old.1), front old.0 old.1 ∙ old.2)
      ];
      after = below_more (λ j. (u : ℕ) → Contains pairs (u, get_or (set order count v) j 0) → StandsBelow (set order count v) j u) count
          (λ j lt u has. stands_still (set order count v) order count j u front (omega (arith, lt))
          (listing.after j lt u (subst (λ (x : ℕ). Contains pairs (u, x)) (front j lt) has)))
          (λ u has. stands_still (set order count v) order count count u front (omega arith) (gone u (subst (λ (x : ℕ). Contains pairs (u, x)) here has)));
    }))

-- The walk over the pairs from the router at place k

-- what the walk keeps
pub record IsFreeing (n : ℕ) (pairs : List Pair) (q : Queue) (s : Stop) : Type 0 where
  pub start : ℕ
  pub first : IsFirstFrom pairs (get_or q.order s.place 0) start s.at
  pub before : s.place < q.count
  pub within : q.count ≤ length q.order
  pub listing : IsListing n pairs q
  pub counted : AreLeftCounts pairs (IsGoneBy pairs (passing q.order s.place start)) q.counts

-- at first no pair of that router is gone
pub IsGoneBy-begin : (pairs : List Pair) (order : List ℕ) (k i : ℕ) → IsGone pairs order k i ↔ IsGoneBy pairs (passing order k 0) i
IsGoneBy-begin pairs order k i = grind (arith, common_steps)

-- in the end all are
pub IsGoneBy-end : (pairs : List Pair) (order : List ℕ) (k start i : ℕ) → IsFirstFrom pairs (get_or order k 0) start None → i < length pairs →
    IsGoneBy pairs (passing order k start) i ↔ IsGone pairs order (k + 1) i
IsGoneBy-end pairs order k start i first i_in = grind (arith, common_steps, cases_lt)

IsGoneBy-front : (pairs : List Pair) (a b : List ℕ) (k count start i : ℕ) → IsFront count a b → k < count → IsGoneBy pairs (passing b k start) i ↔
    IsGoneBy pairs (passing a k start) i
IsGoneBy-front pairs a b k count start i front lt = grind (arith, common_steps, front_back, stands_still)

-- the pair that the walk has come to isn't gone
pub fresh_pair : (n : ℕ) (pairs : List Pair) (counts order : List ℕ) (k count i : ℕ) (f : IsFreeing n pairs (queue counts order count) (stop k (Some i))) →
    ¬ IsGoneBy pairs (passing order k f.start) i
fresh_pair n pairs counts order k count i f by = grind (arith, common_steps)

-- and with it just the pairs up to it are
gone_step : (n : ℕ) (pairs : List Pair) (counts order : List ℕ) (k count i : ℕ) (f : IsFreeing n pairs (queue counts order count) (stop k (Some i))) (j : ℕ) →
    IsGoneBy pairs (passing order k (suc i)) j ↔ (IsGoneBy pairs (passing order k f.start) j ⊎ (j ≡ i))
gone_step n pairs counts order k count i f j = grind (arith, common_steps, cases_lt)

-- the routers that stand before v, where no pair into it is left
stand_before : (pairs : List Pair) (counts order : List ℕ) (k count start v : ℕ) → AreLeftCounts pairs (IsGoneBy pairs (passing order k start)) counts →
    k < count → v < length counts → get_or counts v 0 ≡ 0 → (u : ℕ) → Contains pairs (u, v) → StandsBelow order count u
stand_before pairs counts order k count start v counted lt v_in none u has =
    let e : pair_at pairs has.0 ≡ (u, v) = get_or_default pairs has.0 (0, 0) (u, v) has.1 ∙ has.2 in
    let gone = left_none pairs counted.gone v (length pairs) (sym (counted.each v v_in) ∙ none) has.0 has.1 (ap (λ (p : Pair). p.1) e) in
    elim ((counted.tells has.0 has.1).0 gone) [
      | inl stands ↦ (stands.0, omega (arith, stands.1, lt), stands.2 ∙ ap (λ (p : Pair). p.0) e)
      | inr here ↦ (k, lt, sym here.0 ∙ ap (λ (p : Pair). p.0) e)
    ]

-- one step of the walk
pub IsFreeing-step : (n : ℕ) (pairs : List Pair) (counts new order order' : List ℕ) (k count count' i v : ℕ) (next : Option ℕ) →
    IsFreeing n pairs (queue counts order count) (stop k (Some i)) → length counts ≡ n → length order ≡ n → v < n → (pair_at pairs i).1 ≡ v →
    IsFirstFrom pairs (get_or order k 0) (suc i) next
    → 0 < get_or counts v 0 → new ≡ set counts v (get_or counts v 0 - 1) → (get_or counts v 0 ≡ 1 → count' ≡ count + 1) →
    (get_or counts v 0 ≡ 1 → order' ≡ set order count v) → (1 < get_or counts v 0 → count' ≡ count) →
    (1 < get_or counts v 0 → order' ≡ order)
    → IsFreeing n pairs (queue new order' count') (stop k next)
IsFreeing-step n pairs counts new order order' k count count' i v next f long wide v_n to first some is one_count one_order same_count same_order =
    let v_in : v < length counts = omega (arith, v_n, long) in
    let counted : AreLeftCounts pairs (IsGoneBy pairs (passing order k (suc i))) new =
    AreLeftCounts-gone pairs (IsGoneBy pairs (passing order k f.start)) (IsGoneBy pairs (passing order k (suc i))) counts new i v f.counted f.first.1
    (fresh_pair n pairs counts order k count i f) to v_in is (λ j j_in. gone_step n pairs counts order k count i f j) in
    elim (cases_lt 1 (get_or counts v 0)) [
      | inl more ↦
          let e = same_order more in
          record {
            start = suc i;
            first = subst (λ (xs : List ℕ). IsFirstFrom pairs (get_or xs k 0) (suc i) next) (sym e) first;
            before = omega (arith, f.before, same_count more);
            within = omega (arith, f.within, same_count more, ap (λ (xs : List ℕ). length xs) e);
            listing = IsListing-more n pairs counts new order order' count count' v f.listing v_in more is e (same_count more);
            counted = subst (λ (xs : List ℕ). AreLeftCounts pairs (IsGoneBy pairs (passing xs k (suc i))) new) (sym e) counted;
          }
      | inr few ↦
          let one : get_or counts v 0 ≡ 1 = omega (arith, some, few) in
          let e = one_order one in
          let room : count < length order = omega (arith, wide, room_for n pairs counts order count v f.listing f.within v_n some) in
          let front : IsFront count order' order = subst (λ (xs : List ℕ). IsFront count xs order) (sym e) (IsFront-set order count v) in
          let value : get_or new v 0 ≡ 0 =
          omega (arith, one, ap (λ (xs : List ℕ). get_or xs v 0) is, get_or-set_same counts v (get_or counts v 0 - 1) 0 v_in) in
          let new_in : v < length new = omega (arith, v_in, ap (λ (xs : List ℕ). length xs) is, length-set {A = ℕ}) in
          record {
            start = suc i;
            first = subst (λ (x : ℕ). IsFirstFrom pairs x (suc i) next) (sym (front k f.before)) first;
            before = omega (arith, f.before, one_count one);
            within = omega (arith, room, one_count one, ap (λ (xs : List ℕ). length xs) e, length-set {A = ℕ});
            listing = IsListing-last n pairs counts new order order' count count' v f.listing v_n v_in room one is e (one_count one)
                (stand_before pairs new order k count (suc i) v counted f.before new_in value);
            counted = AreLeftCounts-same pairs (IsGoneBy pairs (passing order k (suc i))) (IsGoneBy pairs (passing order' k (suc i))) new (λ j j_in.
                IsGoneBy-front pairs order' order k count (suc i) j front f.before) counted;
          }
    ]

-- where the walk has no more pair
pub IsFreeing-end : (n : ℕ) (pairs : List Pair) (counts order : List ℕ) (k count : ℕ) (at : Option ℕ) →
    IsFreeing n pairs (queue counts order count) (stop k at) → ((i : ℕ) → at ≡ Some i → ⊥) → AreLeftCounts pairs (IsGone pairs order (k + 1)) counts
IsFreeing-end n pairs counts order k count None f none =
    AreLeftCounts-same pairs (IsGoneBy pairs (passing order k f.start)) (IsGone pairs order (k + 1)) counts (λ i i_in.
    IsGoneBy-end pairs order k f.start i f.first i_in) f.counted
IsFreeing-end n pairs counts order k count (Some i) f none = absurd (none i refl)

-- All routers

-- a walk of m pairs to r, from a router of which something holds
record Back (pairs : List Pair) (Is : ℕ → Type 0) (r m : ℕ) : Type 0 where
  start : ℕ
  path : List ℕ
  long : length path ≡ m
  begins : Is start
  onward : IsPath pairs start path r

walk_back : (n : ℕ) (pairs : List Pair) (counts order : List ℕ) (k : ℕ) → AreBelow n pairs → length counts ≡ n →
    IsListing n pairs (queue counts order k) → AreLeftCounts pairs (IsGone pairs order k) counts → (r : ℕ) → r < n → ¬ StandsBelow order k r →
    (m : ℕ) → Back pairs (λ u. (u < n) × (¬ StandsBelow order k u)) r m
walk_back n pairs counts order k below long listing counted r r_in outside zero =
    record { start = r; path = []; long = refl; begins = (r_in, outside); onward = refl }
walk_back n pairs counts order k below long listing counted r r_in outside (suc m) =
    let b = walk_back n pairs counts order k below long listing counted r r_in outside m in
    elim (cases_lt 0 (get_or counts b.start 0)) [
      | inl some ↦
          let left = left_some pairs counted.gone b.start (length pairs) (omega (arith, some, counted.each b.start (omega (arith, b.begins.0, long)))) in
          let e : pair_at pairs left.0 ≡ ((pair_at pairs left.0).0, b.start) = ap (λ (x : ℕ). ((pair_at pairs left.0).0, x)) left.2 in
          let has : Contains pairs ((pair_at pairs left.0).0, b.start) =
          subst (λ (p : Pair). Contains pairs p) e (Contains-get_or pairs left.0 (0, 0) left.1) in
          record {
            start = (pair_at pairs left.0).0;
            path = b.start ∷ b.path;
            long = ap (λ (x : ℕ). suc x) b.long;
            begins = (
              (pair_below n pairs below (pair_at pairs left.0).0 b.start has).0,
              λ stands. false≢true (sym left.3 ∙ (counted.tells left.0 left.1).1 stands),
            );
            onward = (has, b.onward);
          }
      | inr none ↦ absurd (b.begins.1 (listing.listed b.start b.begins.0 (omega (arith, none))))
    ]

-- where only the routers before k are listed, those are all
pub all_listed : (n : ℕ) (pairs : List Pair) (counts order : List ℕ) (k : ℕ) → AreBelow n pairs → HasNoCycle pairs → length counts ≡ n →
    k ≤ length order → IsListing n pairs (queue counts order k) → AreLeftCounts pairs (IsGone pairs order k) counts → n ≤ k
all_listed n pairs counts order k below acyclic long le listing counted =
    let all = le-length_from_below (take k order) n (λ q q_in. list_any-from_Contains nat_eq_equiv q (take k order) (has q q_in)) in
    omega (arith, all, length-take-le k order le)
  where
    has : (q : ℕ) → q < n → Contains (take k order) q
    has q q_in = elim (stands_cases order k q) [
      | inl stands ↦ (
        stands.0,
        omega (arith, stands.1, length-take-le k order le),
        get_or-take k order stands.0 q stands.1 ∙ get_or_default order stands.0 q 0 (omega (arith, stands.1, le)) ∙ stands.2,
      )
      | inr outside ↦
          let far = walk_back n pairs counts order k below long listing counted q q_in outside n in
          absurd (omega (arith, far.long, length-path n pairs below acyclic far.start q far.path far.begins.0 far.onward))
    ]

-- a listing of all routers
pub IsTopological-whole : (n : ℕ) (pairs : List Pair) (counts order : List ℕ) (count : ℕ) → IsListing n pairs (queue counts order count) → count ≡ n →
    length order ≡ n → IsTopological n pairs order
IsTopological-whole n pairs counts order count listing whole long = record {
  whole = long;
  below = λ j lt. listing.below j (omega (arith, lt, whole));
  all = λ u u_in.
      let length_is : length (take count order) ≡ n = length-take-le count order (omega (arith, whole, long)) ∙ whole in
      let has = Contains-from_distinct (take count order) n (front_list n order count (omega (arith, whole, long)) listing.distinct)
      (front_below n order count (omega (arith, whole, long)) listing.below) length_is u u_in in
      let at = place_from_Contains (take count order) u has in
      let lt : at.0 < count = omega (arith, at.1, length_is, whole) in
      (at.0, omega (arith, lt, whole), sym (get_or-take count order at.0 0 lt) ∙ at.2);
  distinct = λ i j lt j_lt. listing.distinct i j lt (omega (arith, j_lt, whole));
  after = λ j lt. listing.after j (omega (arith, lt, whole));
}

-- Routers without a predecessor

-- the routers without a predecessor, all of them listed, are a listing
pub IsListing-free : (n : ℕ) (pairs : List Pair) (counts order other : List ℕ) (count : ℕ) → AreFree counts order count n → length counts ≡ n →
    AreLeftCounts pairs (IsGone pairs other 0) counts → IsListing n pairs (queue counts order count)
IsListing-free n pairs counts order other count free long counted = record {
  below = free.below;
  distinct = free.distinct;
  none_left = free.none_left;
  listed = free.listed;
  after = λ j lt u has.
      let v_in : get_or order j 0 < length counts = omega (arith, free.below j lt, long) in
      let e : pair_at pairs has.0 ≡ (u, get_or order j 0) = get_or_default pairs has.0 (0, 0) (u, get_or order j 0) has.1 ∙ has.2 in
      let gone = left_none pairs counted.gone (get_or order j 0) (length pairs) (sym (counted.each (get_or order j 0) v_in) ∙ free.none_left j lt) has.0
      has.1 (ap (λ (p : Pair). p.1) e) in
      absurd (omega (arith, ((counted.tells has.0 has.1).0 gone).1));
}

-- nothing is gone where nothing is placed, whatever the list
pub IsGone-none : (pairs : List Pair) (a b : List ℕ) (i : ℕ) → IsGone pairs a 0 i ↔ IsGone pairs b 0 i
IsGone-none pairs a b i = (λ gone. absurd (omega (arith, gone.1)), λ gone. absurd (omega (arith, gone.1)))
