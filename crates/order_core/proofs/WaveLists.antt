-- What the waves of a ranking hold, one by one and one after another.
use Rattle.std.proofs.lemmas.Grind.{common_steps}
use Rattle.std.proofs.Common.{◌≡◌, ◌≢◌, ℕ, zero, suc, ◌+◌, ◌<◌, ◌≤◌, ◌↔◌, ◌⊎◌, inl, inr, Bool, true, false, cond, max}
use Rattle.std.proofs.Common.{List, [], ◌∷◌, ◌++◌, Contains, length, get_or, eqb, arith, refl, sym, ap, ◌∙◌, subst, eq-eqb, zero-add}
use Rattle.std.specs.List.{All, AllPairs, filter, range_with_len}
use Rattle.std.specs.List.Sorted.{IsStrictlyIncreasing}
use Rattle.std.specs.Cmp.{nat_eq_equiv}
use Rattle.std.proofs.lemmas.Bool.{eqb-true, cases_lt}
use Rattle.std.proofs.lemmas.List.{append-nil, append_assoc, get_or_default}
use Rattle.std.proofs.lemmas.List.Elements.{All-contains, All-contains_itself, All-filter, All-weaker, Contains-append_cases, Contains-append_left}
use Rattle.std.proofs.lemmas.List.Elements.{Contains-append_right, Contains-get_or, filter_passes}
use Rattle.std.proofs.lemmas.List.FromFn.{length-range_with_len, get_or-range_with_len}
use Rattle.std.proofs.lemmas.List.Kept.{AllPairs-cons, AllPairs-from_increasing, IsStrictlyIncreasing-filter}
use Rattle.std.proofs.lemmas.Map.Steps.{le-length_from_below}
use Rattle.std.proofs.lemmas.Map.Views.{list_any-from_Contains}
use Rattle.order_core.specs.Orders.{AreDistinct, IsOrder, IsBefore}
use Rattle.order_core.specs.Rankings.{IsRanking, rank_of, wave_count, numbers_below, wave_of, waves_before, flat_of, ComesBefore}
use Rattle.order_core.proofs.DistinctLists.{length-le_from_distinct, place_from_Contains}

-- Numbers

pub range_more : (a n : ℕ) → range_with_len a (suc n) ≡ range_with_len a n ++ (a + n) ∷ []
range_more a zero = let e : a ≡ a + 0 = omega arith in ap (λ (x : ℕ). x ∷ []) e
range_more a (suc n) =
    let e : (a + 1) + n ≡ a + suc n = omega arith in
    ap (λ (xs : List ℕ). a ∷ xs) (range_more (a + 1) n ∙ ap (λ (x : ℕ). range_with_len (a + 1) n ++ x ∷ []) e)

-- the numbers below n + 1 are those below n, and n
pub numbers_more : (n : ℕ) → numbers_below (n + 1) ≡ numbers_below n ++ n ∷ []
numbers_more n =
    let e : n + 1 ≡ suc n = omega arith in
    ap numbers_below e ∙ range_more 0 n ∙ ap (λ (x : ℕ). numbers_below n ++ x ∷ []) (zero-add n)

pub numbers_are_below : (n u : ℕ) → Contains (numbers_below n) u ↔ u < n
numbers_are_below n u = (to, λ lt. (u, subst (λ (l : ℕ). u < l) (sym (length-range_with_len 0 n)) lt, get_or-range_with_len 0 n u u lt ∙ zero-add u))
  where
    to : Contains (numbers_below n) u → u < n
    to (k, within, is) =
        let lt : k < n = subst (λ (l : ℕ). k < l) (length-range_with_len 0 n) within in
        let same : k ≡ u = sym (zero-add k) ∙ sym (get_or-range_with_len 0 n k u lt) ∙ is in
        subst (λ (x : ℕ). x < n) same lt

numbers_ascend : (n : ℕ) → IsStrictlyIncreasing (numbers_below n)
numbers_ascend n k within = grind (arith, common_steps, get_or-range_with_len, length-range_with_len)

-- What a filter keeps

Contains-filter : {X : Type 0} (p : X → Bool) (xs : List X) (x : X) → Contains xs x → p x ≡ true → Contains (filter p xs) x
Contains-filter p [] x (k, within, is) passes = absurd (omega arith)
Contains-filter {X} p (y ∷ ys) x (zero, within, is) passes =
    subst (λ (b : Bool). Contains (cond b (y ∷ filter p ys) (filter p ys)) x) (sym (ap p is ∙ passes)) (zero, omega arith, is)
Contains-filter {X} p (y ∷ ys) x (suc k, within, is) passes = behind (p y) (Contains-filter p ys x (k, omega arith, is) passes)
  where
    behind : (b : Bool) → Contains (filter p ys) x → Contains (cond b (y ∷ filter p ys) (filter p ys)) x
    behind true (j, among, at) = (suc j, omega arith, at)
    behind false has = has

-- what holds of whatever a list has holds of each element
All-from_contains : {X : Type 0} (P : X → Type 0) (xs : List X) → ((x : X) → Contains xs x → P x) → All P xs
All-from_contains P xs holds = All-weaker (Contains xs) P (λ x has. holds x has) xs (All-contains_itself xs)

-- One wave

-- a wave holds exactly the routers of its rank
pub wave_routers : (ranks : List ℕ) (w u : ℕ) → Contains (wave_of ranks w) u ↔ ((u < length ranks) × (rank_of ranks u ≡ w))
wave_routers ranks w u = (
  λ has. (
    (numbers_are_below (length ranks) u).0 (All-contains (Contains numbers) (wave_of ranks w) u (All-filter in_wave (Contains numbers) numbers
        (All-contains_itself numbers)) has),
    eqb-true (rank_of ranks u) w (All-contains (λ (v : ℕ). in_wave v ≡ true) (wave_of ranks w) u (filter_passes in_wave numbers) has),
  ),
  λ both. Contains-filter in_wave numbers u ((numbers_are_below (length ranks) u).1 both.0) (eq-eqb (rank_of ranks u) w both.1),
)
  where
    numbers : List ℕ
    numbers = numbers_below (length ranks)

    in_wave : ℕ → Bool
    in_wave v = eqb (rank_of ranks v) w

-- ascending
pub wave_ascends : (ranks : List ℕ) (w : ℕ) → IsStrictlyIncreasing (wave_of ranks w)
wave_ascends ranks w = IsStrictlyIncreasing-filter (λ u. eqb (rank_of ranks u) w) (numbers_below (length ranks)) (numbers_ascend (length ranks))

-- Waves one after another

pub waves_more : (ranks : List ℕ) (w : ℕ) → waves_before ranks (w + 1) ≡ waves_before ranks w ++ wave_of ranks w
waves_more ranks w = grind (arith, common_steps, append-nil, numbers_more)

-- the first w waves hold exactly the routers of a lower rank
abbrev AreBefore : List ℕ → ℕ → ℕ → Type 0
AreBefore ranks w u = Contains (waves_before ranks w) u ↔ ((u < length ranks) × (rank_of ranks u < w))

one_wave_more : (ranks : List ℕ) (w u : ℕ) → AreBefore ranks w u → AreBefore ranks (w + 1) u
one_wave_more ranks w u before = (
  λ has. to (Contains-append_cases (waves_before ranks w) (wave_of ranks w) u (subst (λ (xs : List ℕ). Contains xs u) (waves_more ranks w) has)),
  λ both. subst (λ (xs : List ℕ). Contains xs u) (sym (waves_more ranks w)) (from both.0 (cases_lt (rank_of ranks u) w) both.1),
)
  where
    to : Contains (waves_before ranks w) u ⊎ Contains (wave_of ranks w) u → (u < length ranks) × (rank_of ranks u < w + 1)
    to (inl has) = let both = before.0 has in (both.0, omega (arith, both.1))
    to (inr has) = let both = (wave_routers ranks w u).0 has in (both.0, omega (arith, both.1))

    from : u < length ranks → (rank_of ranks u < w) ⊎ (w ≤ rank_of ranks u) → rank_of ranks u < w + 1 →
        Contains (waves_before ranks w ++ wave_of ranks w) u
    from within (inl lower) below = Contains-append_left (waves_before ranks w) (wave_of ranks w) u (before.1 (within, lower))
    from within (inr here) below =
        let same : rank_of ranks u ≡ w = omega (arith, here, below) in
        Contains-append_right (waves_before ranks w) (wave_of ranks w) u ((wave_routers ranks w u).1 (within, same))

none_before : (ranks : List ℕ) (u : ℕ) → AreBefore ranks 0 u
none_before ranks u = (λ has. absurd (none has), λ both. absurd (omega (arith, both.1)))
  where
    none : Contains {X = ℕ} [] u → ⊥
    none (k, within, is) = omega arith

pub routers_before : (ranks : List ℕ) (w u : ℕ) → Contains (waves_before ranks w) u ↔ ((u < length ranks) × (rank_of ranks u < w))
routers_before ranks zero u = none_before ranks u
routers_before ranks (suc w) u =
    let e : w + 1 ≡ suc w = omega arith in
    subst (λ (n : ℕ). AreBefore ranks n u) e (one_wave_more ranks w u (routers_before ranks w u))

-- what holds within two lists, and of each element of the first one with each of the second one
pub AllPairs-append : {X : Type 0} (R : X → X → Type 0) (xs ys : List X) → AllPairs R xs → AllPairs R ys →
    ((x y : X) → Contains xs x → Contains ys y → R x y) →
    AllPairs R (xs ++ ys)
AllPairs-append R [] ys first second cross = second
AllPairs-append {X} R (x ∷ xs) ys first second cross =
    AllPairs-cons R x (xs ++ ys) (All-from_contains (R x) (xs ++ ys) (λ y has. by_part y (Contains-append_cases xs ys y has)))
    (AllPairs-append R xs ys (λ i j d lt within. first (suc i) (suc j) d (omega arith) (omega arith)) second
    (λ y z in_first in_second. cross y z (behind y in_first) in_second))
  where
    behind : (y : X) → Contains xs y → Contains (x ∷ xs) y
    behind y (k, within, is) = (suc k, omega arith, is)

    by_part : (y : X) → Contains xs y ⊎ Contains ys y → R x y
    by_part y (inl (k, within, is)) = subst (R x) is (first 0 (suc k) y (omega arith) (omega arith))
    by_part y (inr has) = cross x y (0, omega arith, refl) has

-- the routers of the first w waves stand wave by wave, ascending in each
pub waves_by_rank : (ranks : List ℕ) (w : ℕ) → AllPairs (ComesBefore ranks) (waves_before ranks w)
waves_by_rank ranks zero = λ i j d lt within. absurd (omega arith)
waves_by_rank ranks (suc w) =
    let e : w + 1 ≡ suc w = omega arith in
    let more : waves_before ranks (suc w) ≡ waves_before ranks w ++ wave_of ranks w = ap (waves_before ranks) (sym e) ∙ waves_more ranks w in
    subst (AllPairs (ComesBefore ranks)) (sym more)
    (AllPairs-append (ComesBefore ranks) (waves_before ranks w) (wave_of ranks w) (waves_by_rank ranks w) in_wave across)
  where
    rank_at : (k d : ℕ) → k < length (wave_of ranks w) → rank_of ranks (get_or (wave_of ranks w) k d) ≡ w
    rank_at k d within = ((wave_routers ranks w (get_or (wave_of ranks w) k d)).0 (Contains-get_or (wave_of ranks w) k d within)).1

    in_wave : AllPairs (ComesBefore ranks) (wave_of ranks w)
    in_wave i j d lt within =
        inr (rank_at i d (omega arith) ∙ sym (rank_at j d within), AllPairs-from_increasing (wave_of ranks w) (wave_ascends ranks w) i j d lt within)

    across : (u v : ℕ) → Contains (waves_before ranks w) u → Contains (wave_of ranks w) v → ComesBefore ranks u v
    across u v earlier here = inl (omega (arith, ((routers_before ranks w u).0 earlier).1, ((wave_routers ranks w v).0 here).1))

pub waves_distinct : (ranks : List ℕ) (w : ℕ) → AreDistinct (waves_before ranks w)
waves_distinct ranks w i j d lt within same = apart _ _ (waves_by_rank ranks w i j d lt within) same
  where
    apart : (u v : ℕ) → ComesBefore ranks u v → u ≢ v
    apart u v (inl lower) e = omega (arith, lower, ap (rank_of ranks) e)
    apart u v (inr both) e = omega (arith, both.1, e)

-- the first waves are of no more routers than there are
pub waves_length : (ranks : List ℕ) (w : ℕ) → length (waves_before ranks w) ≤ length ranks
waves_length ranks w =
    length-le_from_distinct (waves_before ranks w) (length ranks) (waves_distinct ranks w)
    (All-from_contains (λ u. u < length ranks) (waves_before ranks w) (λ u has. ((routers_before ranks w u).0 has).0))

-- later waves stand behind
pub waves_split : (ranks : List ℕ) (w c : ℕ) → w ≤ c → (rest : List ℕ) × (waves_before ranks c ≡ waves_before ranks w ++ rest)
waves_split ranks w zero le = let e : 0 ≡ w = omega arith in ([], ap (waves_before ranks) e ∙ sym (append-nil (waves_before ranks w)))
waves_split ranks w (suc c) le = elim (cases_lt w (suc c)) [
  | inl lt ↦
      let split = waves_split ranks w c (omega arith) in
      let e : suc c ≡ c + 1 = omega arith in (
        split.0 ++ wave_of ranks c,
        ap (waves_before ranks) e ∙ waves_more ranks c ∙ ap (λ (xs : List ℕ). xs ++ wave_of ranks c) split.1 ∙ append_assoc
            (waves_before ranks w) split.0 (wave_of ranks c),
      )
  | inr ge ↦ let e : suc c ≡ w = omega arith in ([], ap (waves_before ranks) e ∙ sym (append-nil (waves_before ranks w)))
]

-- Counts of waves

-- a rank is below the count of waves
pub rank_below_count : (ranks : List ℕ) (r : ℕ) → Contains ranks r → r < wave_count ranks
rank_below_count [] r (k, within, is) = absurd (omega arith)
rank_below_count (x ∷ ranks) r (zero, within, is) = omega (arith, is)
rank_below_count (x ∷ ranks) r (suc k, within, is) = omega (arith, rank_below_count ranks r (k, omega arith, is))

-- some router is in the last wave
some_is_last : (x : ℕ) (ranks : List ℕ) → (r : ℕ) × Contains (x ∷ ranks) r × (r + 1 ≡ wave_count (x ∷ ranks))
some_is_last x [] = (x, (0, omega arith, refl), omega arith)
some_is_last x (y ∷ ranks) = choose (some_is_last y ranks) (cases_lt x (wave_count (y ∷ ranks)))
  where
    choose : (r : ℕ) × Contains (y ∷ ranks) r × (r + 1 ≡ wave_count (y ∷ ranks)) → (x < wave_count (y ∷ ranks)) ⊎
        (wave_count (y ∷ ranks) ≤ x) →
        (r : ℕ) × Contains (x ∷ y ∷ ranks) r × (r + 1 ≡ wave_count (x ∷ y ∷ ranks))
    choose (r, (k, within, is), last) (inl lower) = (r, (suc k, omega arith, is), omega (arith, last, lower))
    choose (r, has, last) (inr higher) = (x, (0, omega arith, refl), omega (arith, higher))

-- in a ranking every wave has a router
pub rank_stands : (n : ℕ) (ranks : List ℕ) (w : ℕ) → IsRanking n ranks → w < wave_count ranks → Contains ranks w
rank_stands n [] w ranking below = absurd (omega arith)
rank_stands n (x ∷ ranks) w ranking below =
    let last = some_is_last x ranks in
    ranking.whole w last.0 (omega (arith, last.2, below)) last.1

pub wave_some : (n : ℕ) (ranks : List ℕ) (w : ℕ) → IsRanking n ranks → w < wave_count ranks → 0 < length (wave_of ranks w)
wave_some n ranks w ranking below =
    let has = rank_stands n ranks w ranking below in
    let rank : rank_of ranks has.0 ≡ w = get_or_default ranks has.0 0 w has.1 ∙ has.2 in
    some_length (wave_of ranks w) has.0 ((wave_routers ranks w has.0).1 (has.1, rank))
  where
    some_length : (xs : List ℕ) (x : ℕ) → Contains xs x → 0 < length xs
    some_length xs x (k, within, is) = omega arith

-- there are no more waves than routers
pub count_le_length : (n : ℕ) (ranks : List ℕ) → IsRanking n ranks → wave_count ranks ≤ length ranks
count_le_length n ranks ranking =
    le-length_from_below ranks (wave_count ranks) (λ w below. list_any-from_Contains nat_eq_equiv w ranks (rank_stands n ranks w ranking below))

-- one more router
pub wave_count-push : (ranks : List ℕ) (r : ℕ) → wave_count (ranks ++ r ∷ []) ≡ max (wave_count ranks) (r + 1)
wave_count-push [] r = omega arith
wave_count-push (x ∷ ranks) r = omega (arith, wave_count-push ranks r)

-- The flat run

-- it lists every router once
pub flat_is_order : (ranks : List ℕ) → IsOrder (length ranks) (flat_of ranks)
flat_is_order ranks = record {
  once = waves_distinct ranks (wave_count ranks);
  all = λ u. (
    λ has. ((routers_before ranks (wave_count ranks) u).0 has).0,
    λ lt. (routers_before ranks (wave_count ranks) u).1 (lt, rank_below_count ranks (rank_of ranks u) (Contains-get_or ranks u 0 lt)),
  );
}

-- a router of a lower rank stands before one of a higher rank
pub lower_before : (ranks : List ℕ) (u v : ℕ) → u < length ranks → v < length ranks → ComesBefore ranks u v → IsBefore (flat_of ranks) u v
lower_before ranks u v u_in v_in before =
    let order = flat_is_order ranks in
    let at_u = place_from_Contains (flat_of ranks) u ((order.all u).1 u_in) in
    let at_v = place_from_Contains (flat_of ranks) v ((order.all v).1 v_in) in
    record {
      place = at_u.0;
      later = at_v.0;
      earlier = earlier at_u.0 at_v.0 at_u.1 at_u.2 at_v.2 (cases_lt at_u.0 at_v.0);
      within = at_v.1;
      first = at_u.2;
      second = at_v.2;
    }
  where
    never : ComesBefore ranks v u ⊎ (v ≡ u) → ⊥
    never after = cross before after
      where
        cross : ComesBefore ranks u v → ComesBefore ranks v u ⊎ (v ≡ u) → ⊥
        cross (inl lower) (inl (inl higher)) = omega (arith, lower, higher)
        cross (inl lower) (inl (inr both)) = omega (arith, lower, both.0)
        cross (inl lower) (inr same) = omega (arith, lower, ap (rank_of ranks) same)
        cross (inr both) (inl (inl higher)) = omega (arith, both.0, higher)
        cross (inr both) (inl (inr other)) = omega (arith, both.1, other.1)
        cross (inr both) (inr same) = omega (arith, both.1, same)

    earlier : (i j : ℕ) → i < length (flat_of ranks) → get_or (flat_of ranks) i 0 ≡ u → get_or (flat_of ranks) j 0 ≡ v →
        (i < j) ⊎ (j ≤ i) → i < j
    earlier i j i_in at_u at_v (inl lt) = lt
    earlier i j i_in at_u at_v (inr ge) = elim (cases_lt j i) [
      | inl after ↦
          let pair : ComesBefore ranks (get_or (flat_of ranks) j 0) (get_or (flat_of ranks) i 0) = waves_by_rank ranks (wave_count ranks) j i 0 after i_in in
          absurd (never (inl (subst (λ (x : ℕ). ComesBefore ranks v x) at_u
          (subst (λ (x : ℕ). ComesBefore ranks x (get_or (flat_of ranks) i 0)) at_v pair))))
      | inr le ↦ absurd (never (inr (let e : j ≡ i = omega (arith, ge, le) in sym at_v ∙ ap (λ (k : ℕ). get_or (flat_of ranks) k 0) e ∙ at_u)))
    ]
