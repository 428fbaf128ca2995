-- The walk from v that looks for u: the path on which it stands, and the routers from which it hasn't come back.
use Rattle.std.proofs.lemmas.Grind.{common_steps}
use Rattle.std.proofs.Common.{◌≡◌, ◌≢◌, ℕ, zero, suc, ◌+◌, ◌-◌, ◌*◌, ◌<◌, ◌≤◌, inl, inr, List, [], ◌∷◌, length}
use Rattle.std.proofs.Common.{length-set, get_or, set, take, Bool, false, Option, Some, None, arith, subst, sym, refl, ap, ◌∙◌, below_more}
use Rattle.std.specs.List.{Contains}
use Rattle.std.specs.Option.{IfSome, IfNone, OnSome}
use Rattle.std.proofs.lemmas.List.{get_or-set_same, get_or-set_other, get_or-take, get_or_default, length-take-le}
use Rattle.std.proofs.lemmas.List.Elements.{All-contains, All-cons}
use Rattle.std.proofs.lemmas.Bool.{cases_lt, cases_eq, false≢true}
use Rattle.order_core.specs.Pairs.{Pair, Reaches, IsPath, AreBelow, HasNoCycle}
use Rattle.order_core.specs.Marks.{IsMarked, marked_count}
use Rattle.order_core.proofs.DistinctLists.{AllPairs-cons, length-le_from_distinct}
use Rattle.order_core.proofs.Marked.{marked_count-taken}
use Rattle.order_core.proofs.Paths.{Reaches-itself, Reaches-step, Reaches-trans, Leads-step}
use Rattle.precedence_set.specs.steps.Marks.{MarkedList, marked_list}
use Rattle.precedence_set.specs.LeastCycle.{GoesBack, IsLeastCycle}

-- w is assumed after x, and no marked router of a lower number is
pub record IsLowestAhead (pairs : List Pair) (marks : List Bool) (x w : ℕ) : Type 0 where
  pub follows : Contains pairs (x, w)
  pub lowest : (q : ℕ) → Contains pairs (x, q) → IsMarked marks q → w ≤ q

-- the walk stands on a path of distinct routers that begins with u and v, and from v on each of them is the lowest
-- marked one after the router before it; what reaches u is marked, and v isn't where only u is left of the path
pub record IsWalking (n : ℕ) (pairs : List Pair) (uv : Pair) (p : MarkedList) : Type 0 where
  pub first : get_or p.list 0 0 ≡ uv.0
  pub second : get_or p.list 1 0 ≡ uv.1
  pub some : 1 ≤ p.count
  pub within : p.count ≤ length p.list
  pub below : (k : ℕ) → k < p.count → get_or p.list k 0 < n
  pub distinct : (i j : ℕ) → i < j → j < p.count → get_or p.list i 0 ≢ get_or p.list j 0
  pub standing : (k : ℕ) → 1 ≤ k → k < p.count → IsMarked p.marks (get_or p.list k 0)
  pub steps : (k : ℕ) → 1 ≤ k → k + 1 < p.count → IsLowestAhead pairs p.marks (get_or p.list k 0) (get_or p.list (k + 1) 0)
  pub complete : (r : ℕ) → Reaches pairs r uv.0 → IsMarked p.marks r
  pub done : p.count ≡ 1 → ¬ IsMarked p.marks uv.1

-- what reaches a router below n is below n
pub Reaches-below : (n : ℕ) (pairs : List Pair) → AreBelow n pairs → (r u : ℕ) → u < n → Reaches pairs r u → r < n
Reaches-below n pairs below r u u_in reaches = by_path reaches.path reaches.onward
  where
    by_path : (path : List ℕ) → IsPath pairs r path u → r < n
    by_path [] onward = subst (λ (x : ℕ). x < n) (sym onward) u_in
    by_path (w ∷ path) onward = (All-contains (λ (p : Pair). (p.0 < n) × (p.1 < n)) pairs (r, w) below onward.0).0

-- it begins with u and v, where v and what reaches u are marked
pub IsWalking-begin : (n : ℕ) (pairs : List Pair) (u v : ℕ) (marks : List Bool) (path : List ℕ) → 2 ≤ length path → u < n → v < n → u ≢ v →
    IsMarked marks v → ((r : ℕ) → Reaches pairs r u → IsMarked marks r) → IsWalking n pairs (u, v) (marked_list marks (set (set path 0 u) 1 v) 2)
IsWalking-begin n pairs u v marks [] long u_in v_in differ begun complete = absurd (omega (arith, long))
IsWalking-begin n pairs u v marks (x ∷ []) long u_in v_in differ begun complete = absurd (omega (arith, long))
IsWalking-begin n pairs u v marks (x ∷ y ∷ path) long u_in v_in differ begun complete = record {
  first = refl;
  second = refl;
  some = omega arith;
  within = omega arith;
  below = in_range;
  distinct = apart;
  standing = marked;
  steps = λ k some lt. absurd (omega (arith, some, lt));
  complete = complete;
  done = λ e. absurd (omega (arith, e));
}
  where
    in_range : (k : ℕ) → k < 2 → get_or (u ∷ v ∷ path) k 0 < n
    in_range zero lt = u_in
    in_range (suc zero) lt = v_in
    in_range (suc (suc k)) lt = absurd (omega (arith, lt))

    apart : (i j : ℕ) → i < j → j < 2 → get_or (u ∷ v ∷ path) i 0 ≢ get_or (u ∷ v ∷ path) j 0
    apart zero zero lt j_in same = omega (arith, lt)
    apart zero (suc zero) lt j_in same = differ same
    apart (suc i) zero lt j_in same = omega (arith, lt)
    apart (suc i) (suc zero) lt j_in same = omega (arith, lt)
    apart i (suc (suc j)) lt j_in same = omega (arith, j_in)

    marked : (k : ℕ) → 1 ≤ k → k < 2 → IsMarked marks (get_or (u ∷ v ∷ path) k 0)
    marked zero some lt = absurd (omega (arith, some))
    marked (suc zero) some lt = begun
    marked (suc (suc k)) some lt = absurd (omega (arith, lt))

-- from v on each router of the path reaches the later ones
reaches_later : (n : ℕ) (pairs : List Pair) (u v : ℕ) (marks : List Bool) (path : List ℕ) (count : ℕ) →
    IsWalking n pairs (u, v) (marked_list marks path count) → (k m : ℕ) → 1 ≤ k → k + m < count → Reaches pairs (get_or path k 0) (get_or path (k + m) 0)
reaches_later n pairs u v marks path count walking k zero some lt =
    let same : k + 0 ≡ k = omega arith in
    subst (λ (j : ℕ). Reaches pairs (get_or path k 0) (get_or path j 0)) (sym same) (Reaches-itself pairs (get_or path k 0))
reaches_later n pairs u v marks path count walking k (suc m) some lt =
    let last : ℕ = get_or path (k + m) 0 in
    let next : ℕ = get_or path ((k + m) + 1) 0 in
    let same : (k + m) + 1 ≡ k + suc m = omega arith in
    let step = walking.steps (k + m) (omega (arith, some)) (omega (arith, lt)) in
    let one : Reaches pairs last next = Reaches-step pairs last next next step.follows (Reaches-itself pairs next) in
    let all = Reaches-trans pairs (get_or path k 0) last next (reaches_later n pairs u v marks path count walking k m some (omega (arith, lt))) one in
    subst (λ (j : ℕ). Reaches pairs (get_or path k 0) (get_or path j 0)) same all

-- a router after the last one, other than u, isn't on the path
is_new : (n : ℕ) (pairs : List Pair) (u v : ℕ) (marks : List Bool) (path : List ℕ) (count w : ℕ) → HasNoCycle pairs →
    IsWalking n pairs (u, v) (marked_list marks path count) → Contains pairs (get_or path (count - 1) 0, w) → w ≢ u → (i : ℕ) → i < count → get_or path i 0 ≢ w
is_new n pairs u v marks path count w acyclic walking follows differ zero lt same = differ (sym same ∙ walking.first)
is_new n pairs u v marks path count w acyclic walking follows differ (suc i) lt same =
    let last : ℕ = get_or path (count - 1) 0 in
    let far : suc i + (count - 1 - suc i) ≡ count - 1 = omega (arith, lt) in
    let to_last : Reaches pairs (get_or path (suc i) 0) (get_or path (suc i + (count - 1 - suc i)) 0) =
    reaches_later n pairs u v marks path count walking (suc i) (count - 1 - suc i) (omega arith) (omega (arith, lt)) in
    let back : Reaches pairs w last =
    subst (λ (x : ℕ). Reaches pairs x last) same (subst (λ (j : ℕ). Reaches pairs (get_or path (suc i) 0) (get_or path j 0)) far to_last) in
    acyclic last (Leads-step pairs last w last follows back)

-- so there is room for it
pub room_for_next : (n : ℕ) (pairs : List Pair) → AreBelow n pairs → HasNoCycle pairs →
    (u v : ℕ) (marks : List Bool) (path : List ℕ) (count w : ℕ) → length path ≡ n → IsWalking n pairs (u, v) (marked_list marks path count) →
    Contains pairs (get_or path (count - 1) 0, w) → w ≢ u → count < length path
room_for_next n pairs below acyclic u v marks path count w whole walking follows differ = elim (cases_lt count (length path)) [
  | inl lt ↦ lt
  | inr ge ↦
      let new = is_new n pairs u v marks path count w acyclic walking follows differ in
      let w_in : w < n = (All-contains (λ (p : Pair). (p.0 < n) × (p.1 < n)) pairs (get_or path (count - 1) 0, w) below follows).1 in
      let all : length (w ∷ path) ≤ n = length-le_from_distinct (w ∷ path) n
      (AllPairs-cons (λ a b. a ≢ b) w path
      (λ k d in' same. new k (omega (arith, in', ge)) (get_or_default path k 0 d in' ∙ sym same))
      (λ i j d lt in' same. walking.distinct i j lt (omega (arith, in', ge))
      (get_or_default path i 0 d (omega (arith, lt, in')) ∙ same ∙ get_or_default path j d 0 in')))
      (All-cons (λ a. a < n) w path w_in
      (λ k d in'. subst (λ (x : ℕ). x < n) (get_or_default path k 0 d in') (walking.below k (omega (arith, in', ge))))) in
      absurd (omega (arith, all, whole))
]

-- the path is longer by the lowest marked router after the last one
pub IsWalking-longer : (n : ℕ) (pairs : List Pair) → AreBelow n pairs → HasNoCycle pairs →
    (u v : ℕ) (marks : List Bool) (path : List ℕ) (count w : ℕ) → 2 ≤ count → count < length path → IsWalking n pairs (u, v) (marked_list marks path count) →
    IsLowestAhead pairs marks (get_or path (count - 1) 0) w → IsMarked marks w → w ≢ u →
    IsWalking n pairs (u, v) (marked_list marks (set path count w) (count + 1))
IsWalking-longer n pairs below acyclic u v marks path count w two room walking ahead marked differ =
    let new = is_new n pairs u v marks path count w acyclic walking ahead.follows differ in
    let w_in : w < n = (All-contains (λ (p : Pair). (p.0 < n) × (p.1 < n)) pairs (get_or path (count - 1) 0, w) below ahead.follows).1 in
    record {
      first = old 0 (omega (arith, two)) ∙ walking.first;
      second = old 1 (omega (arith, two)) ∙ walking.second;
      some = omega arith;
      within = more;
      below = below_more (λ k. get_or (set path count w) k 0 < n) count
          (λ k lt. subst (λ (x : ℕ). x < n) (sym (old k lt)) (walking.below k lt)) (subst (λ (x : ℕ). x < n) (sym here) w_in);
      distinct = λ i j lt j_in same. elim (cases_lt j count) [
        | inl before ↦ walking.distinct i j lt before (sym (old i (omega (arith, lt, before))) ∙ same ∙ old j before)
        | inr ge ↦
            let at : j ≡ count = omega (arith, ge, j_in) in
            new i (omega (arith, lt, at)) (sym (old i (omega (arith, lt, at))) ∙ same ∙ ap (λ (k : ℕ). get_or (set path count w) k 0) at ∙ here)
      ];
      standing = λ k some k_in. elim (cases_lt k count) [
        | inl before ↦ subst (λ (x : ℕ). IsMarked marks x) (sym (old k before)) (walking.standing k some before)
        | inr ge ↦
            let at : k ≡ count = omega (arith, ge, k_in) in
            subst (λ (x : ℕ). IsMarked marks x) (sym (ap (λ (j : ℕ). get_or (set path count w) j 0) at ∙ here)) marked
      ];
      steps = λ k some k_in. elim (cases_lt (k + 1) count) [
        | inl before ↦
            subst (λ (x : ℕ). IsLowestAhead pairs marks (get_or (set path count w) k 0) x) (sym (old (k + 1) before))
            (subst (λ (x : ℕ). IsLowestAhead pairs marks x (get_or path (k + 1) 0)) (sym (old k (omega (arith, before)))) (walking.steps k some before))
        | inr ge ↦
            let at : k + 1 ≡ count = omega (arith, ge, k_in) in
            let last : k ≡ count - 1 = omega (arith, at) in
            subst (λ (x : ℕ). IsLowestAhead pairs marks (get_or (set path count w) k 0) x)
            (sym (ap (λ (j : ℕ). get_or (set path count w) j 0) at ∙ here))
            (subst (λ (x : ℕ). IsLowestAhead pairs marks x w) (sym (old k (omega (arith, at)) ∙ ap (λ (j : ℕ). get_or path j 0) last)) ahead)
      ];
      complete = walking.complete;
      done = λ e. absurd (omega (arith, e, two));
    }
  where
    old : (k : ℕ) → k < count → get_or (set path count w) k 0 ≡ get_or path k 0
    old k lt = get_or-set_other path count k w 0 (λ same. omega (arith, lt, same))

    here : get_or (set path count w) count 0 ≡ w
    here = get_or-set_same path count w 0 room

    more : count + 1 ≤ length (set path count w)
    more = omega (arith, room, length-set path count w)

-- from a router that reaches u, and isn't u, a pair leads to one that reaches u
pub first_back : (pairs : List Pair) (u x : ℕ) → x ≢ u → Reaches pairs x u → (w : ℕ) × Contains pairs (x, w) × Reaches pairs w u
first_back pairs u x differ reaches = by_path reaches.path reaches.onward
  where
    by_path : (path : List ℕ) → IsPath pairs x path u → (w : ℕ) × Contains pairs (x, w) × Reaches pairs w u
    by_path [] onward = absurd (differ onward)
    by_path (w ∷ path) onward = (w, onward.0, record { path = path; onward = onward.1 })

-- a mark that stands after one is taken stood before
marked_before : (marks : List Bool) (x r : ℕ) → x < length marks → IsMarked (set marks x false) r → IsMarked marks r
marked_before marks x r x_in marked = grind (arith, common_steps, cases_eq, false≢true, get_or-set_other, get_or-set_same)

-- the path is shorter by the last router, which leads to no marked one and has no mark now
pub IsWalking-shorter : (n : ℕ) (pairs : List Pair) (u v : ℕ) (marks : List Bool) (path : List ℕ) (count less : ℕ) → 2 ≤ count →
    less + 1 ≡ count → get_or path (count - 1) 0 < length marks → IsWalking n pairs (u, v) (marked_list marks path count) →
    ((q : ℕ) → Contains pairs (get_or path (count - 1) 0, q) → ¬ IsMarked marks q) →
    IsWalking n pairs (u, v) (marked_list (set marks (get_or path (count - 1) 0) false) path less)
IsWalking-shorter n pairs u v marks path count less two shorter last_in walking none = record {
  first = walking.first;
  second = walking.second;
  some = omega (arith, two, shorter);
  within = omega (arith, walking.within, shorter);
  below = λ k lt. walking.below k (omega (arith, lt, shorter));
  distinct = λ i j lt j_in. walking.distinct i j lt (omega (arith, j_in, shorter));
  standing = λ k some lt. kept (get_or path k 0) (walking.distinct k (count - 1) (omega (arith, lt, shorter)) (omega (arith, two)))
      (walking.standing k some (omega (arith, lt, shorter)));
  steps = λ k some lt.
      let step = walking.steps k some (omega (arith, lt, shorter)) in
      record { follows = step.follows; lowest = λ q has marked. step.lowest q has (marked_before marks last q last_in marked) };
  complete = λ r reaches. kept r (λ same. apart (subst (λ (x : ℕ). Reaches pairs x u) same reaches)) (walking.complete r reaches);
  done = λ one marked.
      let at : count - 1 ≡ 1 = omega (arith, one, shorter) in
      let is_v : last ≡ v = ap (λ (k : ℕ). get_or path k 0) at ∙ walking.second in
      false≢true (sym (get_or-set_same marks last false false last_in) ∙ subst (λ (x : ℕ). IsMarked (set marks last false) x) (sym is_v) marked);
}
  where
    last : ℕ
    last = get_or path (count - 1) 0

    kept : (r : ℕ) → r ≢ last → IsMarked marks r → IsMarked (set marks last false) r
    kept r differ marked = get_or-set_other marks last r false false differ ∙ marked

    apart : ¬ Reaches pairs last u
    apart reaches =
        let onward =
        first_back pairs u last (λ same. walking.distinct 0 (count - 1) (omega (arith, two)) (omega (arith, two)) (walking.first ∙ sym same)) reaches in
        none onward.0 onward.1 (walking.complete onward.0 onward.2)

-- by lowest marked routers one goes back to u by lowest routers that lead back
goes_back : (pairs : List Pair) (marks : List Bool) (u : ℕ) → ((r : ℕ) → Reaches pairs r u → IsMarked marks r) → (x : ℕ) (rest : List ℕ) →
    ((k : ℕ) → k < length rest → get_or rest k 0 ≢ u) →
    ((k : ℕ) → k < length rest → IsLowestAhead pairs marks (get_or (x ∷ rest) k 0) (get_or rest k 0)) →
    IsLowestAhead pairs marks (get_or (x ∷ rest) (length rest) 0) u → GoesBack pairs u x rest × Reaches pairs x u
goes_back pairs marks u complete x [] differ steps end = (
  record {
    back = record { follows = end.follows; reaches = Reaches-itself pairs u };
    lowest = λ q back. end.lowest q back.follows (complete q back.reaches);
  },
  Reaches-step pairs x u u end.follows (Reaches-itself pairs u),
)
goes_back pairs marks u complete x (w ∷ rest) differ steps end =
    let later = goes_back pairs marks u complete w rest (λ k lt. differ (suc k) (omega (arith, lt))) (λ k lt. steps (suc k) (omega (arith, lt))) end in
    let step = steps 0 (omega arith) in (
      (
        differ 0 (omega arith),
        record {
          back = record { follows = step.follows; reaches = later.1 };
          lowest = λ q back. step.lowest q back.follows (complete q back.reaches);
        },
        later.0,
      ),
      Reaches-step pairs x w u step.follows later.1,
    )

-- where u is the lowest marked router after the last one, the path is the cycle
pub IsWalking-end : (n : ℕ) (pairs : List Pair) (u v : ℕ) (marks : List Bool) (path : List ℕ) (count : ℕ) → 2 ≤ count →
    IsWalking n pairs (u, v) (marked_list marks path count) → IsLowestAhead pairs marks (get_or path (count - 1) 0) u →
    IsLeastCycle pairs u v (take count path) × Reaches pairs v u
IsWalking-end n pairs u v marks path zero two walking end = absurd (omega (arith, two))
IsWalking-end n pairs u v marks path (suc zero) two walking end = absurd (omega (arith, two))
IsWalking-end n pairs u v marks [] (suc (suc m)) two walking end = absurd (omega (arith, walking.within))
IsWalking-end n pairs u v marks (x ∷ []) (suc (suc m)) two walking end = absurd (omega (arith, walking.within))
IsWalking-end n pairs u v marks (x ∷ y ∷ path) (suc (suc m)) two walking end =
    let goes = goes_back pairs marks u walking.complete y (take m path) differ steps last in (
      record {
        rest = take m path;
        begins = ap (λ (a : ℕ). a ∷ y ∷ take m path) walking.first ∙ ap (λ (b : ℕ). u ∷ b ∷ take m path) walking.second;
        goes = subst (λ (b : ℕ). GoesBack pairs u b (take m path)) walking.second goes.0;
      },
      subst (λ (b : ℕ). Reaches pairs b u) walking.second goes.1,
    )
  where
    long : length (take m path) ≡ m
    long = length-take-le m path (omega (arith, walking.within))

    at : (k : ℕ) → k < suc m → get_or (y ∷ take m path) k 0 ≡ get_or (x ∷ y ∷ path) (suc k) 0
    at k lt = get_or-take (suc m) (y ∷ path) k 0 lt

    differ : (k : ℕ) → k < length (take m path) → get_or (take m path) k 0 ≢ u
    differ k lt same = walking.distinct 0 (suc (suc k)) (omega arith) (omega (arith, lt, long)) (walking.first ∙ sym same
        ∙ at (suc k) (omega (arith, lt, long)))

    steps : (k : ℕ) → k < length (take m path) → IsLowestAhead pairs marks (get_or (y ∷ take m path) k 0) (get_or (take m path) k 0)
    steps k lt =
        let more : suc k + 1 ≡ suc (suc k) = omega arith in
        let step = subst (λ (j : ℕ). IsLowestAhead pairs marks (get_or (x ∷ y ∷ path) (suc k) 0) (get_or (x ∷ y ∷ path) j 0)) more
        (walking.steps (suc k) (omega arith) (omega (arith, lt, long))) in
        subst (λ (a : ℕ). IsLowestAhead pairs marks a (get_or (take m path) k 0)) (sym (at k (omega (arith, lt, long))))
        (subst (λ (b : ℕ). IsLowestAhead pairs marks (get_or (x ∷ y ∷ path) (suc k) 0) b) (sym (at (suc k) (omega (arith, lt, long)))) step)

    last : IsLowestAhead pairs marks (get_or (y ∷ take m path) (length (take m path)) 0) u
    last =
        let far : suc (length (take m path)) ≡ suc (suc m) - 1 = omega (arith, long) in
        subst (λ (a : ℕ). IsLowestAhead pairs marks a u) (sym (at (length (take m path)) (omega (arith, long))
        ∙ ap (λ (j : ℕ). get_or (x ∷ y ∷ path) j 0) far)) end

-- What is found after the last router of the path

pub IsLowestAhead-found : (pairs : List Pair) (marks : List Bool) (x u : ℕ) (next : Option ℕ) → next ≡ Some u →
    IfSome next (λ w. Contains pairs (x, w)) → IfSome next (λ w. (q : ℕ) → Contains pairs (x, q) → IsMarked marks q → w ≤ q) →
    IsLowestAhead pairs marks x u
IsLowestAhead-found pairs marks x u None e follows lowest = absurd (let e : None ≡ Some u = e in cc)
IsLowestAhead-found pairs marks x u (Some w) e follows lowest =
    let same : w ≡ u = cc in
    subst (λ (y : ℕ). IsLowestAhead pairs marks x y) same (record { follows = follows; lowest = lowest })

-- there is room for a router that is found
pub room_for_found : (n : ℕ) (pairs : List Pair) → AreBelow n pairs → HasNoCycle pairs →
    (u v : ℕ) (marks : List Bool) (path : List ℕ) (count : ℕ) →
    length path ≡ n → IsWalking n pairs (u, v) (marked_list marks path count) → (next : Option ℕ) → next ≢ Some u →
    IfSome next (λ w. Contains pairs (get_or path (count - 1) 0, w)) → OnSome next (count < length path)
room_for_found n pairs below acyclic u v marks path count whole walking None differ follows = tt
room_for_found n pairs below acyclic u v marks path count whole walking (Some w) differ follows =
    room_for_next n pairs below acyclic u v marks path count w whole walking follows (λ same. differ (ap (λ (x : ℕ). Some x) same))

-- what one step of the walk makes of the path and the marks
pub record IsStep (old : MarkedList) (next : Option ℕ) (new : MarkedList) : Type 0 where
  pub longer : OnSome next (new.count ≡ old.count + 1)
  pub added : IfSome next (λ w. new.list ≡ set old.list old.count w)
  pub kept : OnSome next (new.marks ≡ old.marks)
  pub shorter : IfNone next (new.count + 1 ≡ old.count)
  pub same : IfNone next (new.list ≡ old.list)
  pub taken : IfNone next (new.marks ≡ set old.marks (get_or old.list (old.count - 1) 0) false)

-- what is found by the walk after the last router
pub record IsNextOf (pairs : List Pair) (marks : List Bool) (x : ℕ) (next : Option ℕ) : Type 0 where
  pub after : IfSome next (λ w. Contains pairs (x, w))
  pub marked : IfSome next (λ w. IsMarked marks w)
  pub lowest : IfSome next (λ w. (q : ℕ) → Contains pairs (x, q) → IsMarked marks q → w ≤ q)
  pub none : IfNone next ((q : ℕ) → Contains pairs (x, q) → ¬ IsMarked marks q)

-- the walk goes on by a step
pub IsWalking-step : (n : ℕ) (pairs : List Pair) → AreBelow n pairs → HasNoCycle pairs →
    (u v : ℕ) (marks : List Bool) (path : List ℕ) (count : ℕ) →
    (next : Option ℕ) (marks' : List Bool) (path' : List ℕ) (count' : ℕ) → 2 ≤ count → length path ≡ n → length marks ≡ n →
    IsWalking n pairs (u, v) (marked_list marks path count) → next ≢ Some u → IsNextOf pairs marks (get_or path (count - 1) 0) next →
    IsStep (marked_list marks path count) next (marked_list marks' path' count') → IsWalking n pairs (u, v) (marked_list marks' path' count')
IsWalking-step n pairs below acyclic u v marks path count None marks' path' count' two whole many walking differ is_next step =
    let last_in : get_or path (count - 1) 0 < length marks = omega (arith, walking.below (count - 1) (omega (arith, two)), many) in
    let on = IsWalking-shorter n pairs u v marks path count count' two step.shorter last_in walking is_next.none in
    subst (λ (xs : List ℕ). IsWalking n pairs (u, v) (marked_list marks' xs count')) (sym step.same)
    (subst (λ (ms : List Bool). IsWalking n pairs (u, v) (marked_list ms path count')) (sym step.taken) on)
IsWalking-step n pairs below acyclic u v marks path count (Some w) marks' path' count' two whole many walking differ is_next step =
    let apart : w ≢ u = λ same. differ (ap (λ (x : ℕ). Some x) same) in
    let room = room_for_next n pairs below acyclic u v marks path count w whole walking is_next.after apart in
    let ahead : IsLowestAhead pairs marks (get_or path (count - 1) 0) w = record { follows = is_next.after; lowest = is_next.lowest } in
    let on = IsWalking-longer n pairs below acyclic u v marks path count w two room walking ahead is_next.marked apart in
    subst (λ (c : ℕ). IsWalking n pairs (u, v) (marked_list marks' path' c)) (sym step.longer)
    (subst (λ (xs : List ℕ). IsWalking n pairs (u, v) (marked_list marks' xs (count + 1))) (sym step.added)
    (subst (λ (ms : List Bool). IsWalking n pairs (u, v) (marked_list ms (set path count w) (count + 1))) (sym step.kept) on))

-- and comes nearer to its end
pub step_is_nearer : (n : ℕ) (pairs : List Pair) (u v : ℕ) (marks : List Bool) (path : List ℕ) (count : ℕ) →
    (next : Option ℕ) (marks' : List Bool) (path' : List ℕ) (count' : ℕ) → 2 ≤ count → IsWalking n pairs (u, v) (marked_list marks path count) →
    OnSome next (count < length path) → IsStep (marked_list marks path count) next (marked_list marks' path' count') →
    2 * marked_count marks' + (length path' - count') < 2 * marked_count marks + (length path - count)
step_is_nearer n pairs u v marks path count None marks' path' count' two walking room step =
    let last : ℕ = get_or path (count - 1) 0 in
    let fewer = marked_count-taken marks last (walking.standing (count - 1) (omega (arith, two)) (omega (arith, two))) in
    let marks_are : marked_count marks' ≡ marked_count (set marks last false) = ap (λ (ms : List Bool). marked_count ms) step.taken in
    let path_is : length path' ≡ length path = ap (λ (xs : List ℕ). length xs) step.same in
    omega (arith, fewer, marks_are, path_is, step.shorter, walking.within, two)
step_is_nearer n pairs u v marks path count (Some w) marks' path' count' two walking room step =
    let marks_are : marked_count marks' ≡ marked_count marks = ap (λ (ms : List Bool). marked_count ms) step.kept in
    let path_is : length path' ≡ length path = ap (λ (xs : List ℕ). length xs) step.added ∙ length-set path count w in
    omega (arith, marks_are, path_is, step.longer, room)
