-- A walk goes on, and the ring that it ends in.
use Rattle.std.proofs.Common.{◌≡◌, ◌≢◌, ℕ, suc, ◌+◌, ◌-◌, ◌<◌, ◌≤◌, Bool, false, List, Some, None, [], ◌∷◌, ◌++◌, length, get_or, set, take, drop, arith, refl, sym, ap, ◌∙◌, subst, inl, inr}
use Rattle.std.specs.List.{All, AllPairs}
use Rattle.std.proofs.lemmas.List.{take-append-drop, drop_more, length_push, length-set, get_or-set_same, get_or-set_other, get_or-take, length-take, get_or_append_left, get_or_push, get_or_past, get_or_default, take_at, length-drop, length-append}
use Rattle.std.proofs.lemmas.List.Elements.{All-append, All-drop, All-take, All-push, All-weaker}
use Rattle.std.proofs.lemmas.Bool.{cases_lt, false≢true}
use Rattle.std.proofs.lemmas.List.Quantifiers.{all_pairs_push}
use Rattle.igp_theory.specs.Loops.{IsLive, IsLowestLiveHop, IsFoundRing}
use Rattle.order_core.specs.Marks.{IsMarked}
use Rattle.order_core.specs.Rings.{IsTurned}
use Rattle.order_core.proofs.DistinctLists.{length-le_from_distinct}
use Rattle.loop_finder.specs.steps.Live.{AreBounded}
use Rattle.loop_finder.specs.steps.Walks.{IsLeastHop, IsMarkedHop, IsWalk, PlaceOf}
use Rattle.loop_finder.proofs.LiveLaws.{marked_below, live_on_walk, marked_from_live, next_on_path}
use Rattle.loop_finder.proofs.Peeling.{bounded_more, marked_before}
use Rattle.loop_finder.proofs.RingLaws.{each_from_at, all_from_each}

-- what a walk keeps, as far as it has come; with an empty path it was in vain
pub record IsOnWay (step : ℕ → ℕ → Type 0) (all marks : List Bool) (start : ℕ) (path : List ℕ) : Type 0 where
  pub bounded : AreBounded step marks
  pub many : length marks ≡ length all
  pub fewer : (r : ℕ) → IsMarked marks r → IsMarked all r
  pub begins : 0 < length path → get_or path 0 0 ≡ start
  pub in_vain : length path ≡ 0 → ¬ IsMarked marks start
  pub distinct : AllPairs (λ u v. u ≢ v) path
  pub marked : All (IsMarked marks) path
  pub goes : (k : ℕ) → suc k < length path → IsLeastHop step marks (get_or path k 0) (get_or path (suc k) 0)

-- the last router of a path
pub record IsLast (path : List ℕ) (last : ℕ) : Type 0 where
  pub some : 0 < length path
  pub at : get_or path (length path - 1) 0 ≡ last

pub last_read : (path : List ℕ) (last : ℕ) → 0 < length path → last ≡ get_or path (length path - 1) last → IsLast path last
last_read path last some is = record { some = some; at = get_or_default path (length path - 1) 0 last (omega (arith, some)) ∙ sym is }

-- a path to which a marked router is added that isn't on it is short of the count of routers
pub on_way_short : (step : ℕ → ℕ → Type 0) (all marks : List Bool) (start : ℕ) (path shown : List ℕ) (next : ℕ) → IsOnWay step all marks start path →
    IsMarked marks next → shown ≡ path → PlaceOf shown next None → length path < length marks
on_way_short step all marks start path shown next way marked is fresh =
    let below : All (λ u. u < length marks) (path ++ next ∷ []) = All-weaker (IsMarked marks) (λ u. u < length marks) (λ u m. marked_below marks u m)
    (path ++ next ∷ []) (All-push (IsMarked marks) path next way.marked marked) in
    let apart : AllPairs (λ u v. u ≢ v) (path ++ next ∷ []) =
    all_pairs_push (λ u v. u ≢ v) path next way.distinct (λ k d within at. subst
    (λ (xs : List ℕ). PlaceOf xs next None) is fresh k within (get_or_default path k 0 d within ∙ at)) in
    omega (arith, length-le_from_distinct (path ++ next ∷ []) (length marks) apart below, length_push path next)

-- the last router is marked
pub last_marked : (step : ℕ → ℕ → Type 0) (all marks : List Bool) (start : ℕ) (path : List ℕ) (last : ℕ) → IsOnWay step all marks start path →
    IsLast path last → IsMarked marks last
last_marked step all marks start path last way at = subst (λ (u : ℕ). IsMarked marks u) at.at (way.marked (length path - 1) 0 (omega (arith, at.some)))

-- its lowest-numbered marked hop
least_at : (step : ℕ → ℕ → Type 0) (marks : List Bool) (path : List ℕ) (last next k : ℕ) → IsLast path last → length path - 1 ≡ k →
    IsMarkedHop step marks last next → IsLeastHop step marks (get_or path k 0) next
least_at step marks path last next k at e hop = subst (λ (j : ℕ). IsLeastHop step marks (get_or path j 0) next) e
    (subst (λ (u : ℕ). IsLeastHop step marks u next) (sym at.at) (record { steps = hop.steps; lowest = hop.lowest }))

-- a hop more, to a router where the walk hasn't been
pub IsOnWay-more : (step : ℕ → ℕ → Type 0) (all marks : List Bool) (start : ℕ) (path shown : List ℕ) (last next : ℕ) → IsOnWay step all marks start path →
    IsLast path last → IsMarkedHop step marks last next → shown ≡ path → PlaceOf shown next None → IsOnWay step all marks start (path ++ next ∷ [])
IsOnWay-more step all marks start path shown last next way at hop is new = record {
  bounded = way.bounded;
  many = way.many;
  fewer = way.fewer;
  begins = λ more. get_or_append_left path (next ∷ []) 0 0 at.some ∙ way.begins at.some;
  in_vain = λ none. absurd (omega (arith, none, length_push path next));
  distinct = all_pairs_push (λ u v. u ≢ v) path next way.distinct (λ k d within same. fresh k within (get_or_default path k 0 d within ∙ same));
  marked = All-push (IsMarked marks) path next way.marked hop.marked;
  goes = λ k within. elim (cases_lt (suc k) (length path)) [
    | inl before ↦ rw (get_or_append_left path (next ∷ []) 0 k (omega (arith, before)), get_or_append_left path (next ∷ []) 0 (suc k) before)
        (way.goes k before)
    | inr past ↦
        let e : length path - 1 ≡ k = omega (arith, at.some, past, within, length_push path next) in
        rw (get_or_append_left path (next ∷ []) 0 k (omega (arith, e, at.some)), get_or_push path next 0 (suc k) (omega (arith, e, at.some)))
        (least_at step marks path last next k at e hop)
  ];
}
  where
    fresh : PlaceOf path next None
    fresh = subst (λ (xs : List ℕ). PlaceOf xs next None) is new

-- back from a router without a marked hop
pub IsOnWay-back : (step : ℕ → ℕ → Type 0) (all marks : List Bool) (start : ℕ) (path : List ℕ) (last : ℕ) → IsOnWay step all marks start path →
    IsLast path last → ((h : ℕ) → step last h → ¬ IsMarked marks h) → IsOnWay step all (set marks last false) start (take (length path - 1) path)
IsOnWay-back step all marks start path last way at stuck = record {
  bounded = bounded_more step marks last inside marked stuck way.bounded;
  many = length-set marks last false ∙ way.many;
  fewer = λ r there. way.fewer r (marked_before marks last r inside there);
  begins = λ more. get_or-take m path 0 0 (shorter 0 more) ∙ way.begins at.some;
  in_vain = λ none there.
      let e : last ≡ start = sym at.at ∙ ap (λ (j : ℕ). get_or path j 0) (omega (arith, none, length-take m path)) ∙ way.begins at.some in
      false≢true (sym (get_or-set_same marks last false false inside) ∙ subst (λ (u : ℕ). IsMarked (set marks last false) u) (sym e) there);
  distinct = λ i j d below within same. way.distinct i j d below (omega (arith, shorter j within))
      (sym (get_or-take m path i d (omega (arith, below, shorter j within))) ∙ same ∙ get_or-take m path j d (shorter j within));
  marked = λ k d within. rw (get_or-take m path k d (shorter k within))
      (get_or-set_other marks last (get_or path k d) false false (λ e. way.distinct k m 0 (shorter k within) (omega (arith, at.some))
      (get_or_default path k 0 d (omega (arith, shorter k within)) ∙ e ∙ sym at.at)) ∙ way.marked k d (omega (arith, shorter k within)));
  goes = λ k within.
      let hop : IsLeastHop step marks (get_or path k 0) (get_or path (suc k) 0) = way.goes k (omega (arith, shorter (suc k) within)) in
      rw (get_or-take m path k 0 (omega (arith, shorter (suc k) within)), get_or-take m path (suc k) 0 (shorter (suc k) within))
      (record { steps = hop.steps; lowest = λ v to there. hop.lowest v to (marked_before marks last v inside there) });
}
  where
    m : ℕ
    m = length path - 1

    marked : IsMarked marks last
    marked = last_marked step all marks start path last way at

    inside : last < length marks
    inside = marked_below marks last marked

    shorter : (k : ℕ) → k < length (take m path) → k < m
    shorter k within = omega (arith, within, length-take m path)

-- a hop back to where the walk has been
pub IsOnWay-end : (step : ℕ → ℕ → Type 0) (all marks : List Bool) (start : ℕ) (path shown : List ℕ) (last next place : ℕ) →
    IsOnWay step all marks start path → IsLast path last → IsMarkedHop step marks last next → shown ≡ path → PlaceOf shown next (Some place) →
    IsWalk step marks start path place
IsOnWay-end step all marks start path shown last next place way at hop is old = record {
  within = there.0;
  begins = way.begins at.some;
  distinct = way.distinct;
  marked = way.marked;
  goes = λ k inside. elim (cases_lt (suc k) (length path)) [
    | inl more ↦ rw (get_or_default path (suc k) (get_or path place 0) 0 more) (way.goes k more)
    | inr past ↦ rw (get_or_past path (suc k) (get_or path place 0) past, there.1)
        (least_at step marks path last next k at (omega (arith, past, inside)) hop)
  ];
}
  where
    there : PlaceOf path next (Some place)
    there = subst (λ (xs : List ℕ). PlaceOf xs next (Some place)) is old

-- a list turned to the place of its least element
pub turned_from : (ring : List ℕ) (low : ℕ) → low < length ring → All (λ u. get_or ring low 0 ≤ u) ring → IsTurned ring (drop low ring ++ take low ring)
turned_from ring low within least = record {
  front = take low ring;
  back = drop low ring;
  found = sym (take-append-drop low ring);
  turned_is = refl;
  lowest = get_or ring low 0;
  others = drop (low + 1) ring ++ take low ring;
  first = ap (λ (xs : List ℕ). xs ++ take low ring) (drop_more ring low 0 within);
  least = All-append (λ u. get_or ring low 0 ≤ u) (drop (low + 1) ring) (take low ring) (All-drop (λ u. get_or ring low 0 ≤ u) (low + 1) ring least)
      (All-take (λ u. get_or ring low 0 ≤ u) low ring least);
}

-- the ring that a walk ends in, turned, is the one that is told
pub found_from_walk : (step : ℕ → ℕ → Type 0) (marks : List Bool) (n start place : ℕ) (path ring : List ℕ) → length marks ≡ n → AreBounded step marks
    → ((q : ℕ) → IsMarked marks q → start ≤ q) → IsWalk step marks start path place → IsTurned (drop place path) ring → IsFoundRing step n ring
found_from_walk step marks n start place [] ring many bounded lowest walk turned = absurd (omega (arith, walk.within))
found_from_walk step marks n start place (s ∷ visited) ring many bounded lowest walk turned = record {
  start = s;
  visited = visited;
  begins = record {
    live = live_on_walk step marks start path place walk n 0 some;
    lowest = λ v live. subst (λ (u : ℕ). u ≤ v) (sym walk.begins) (lowest v (marked v live));
  };
  lead = take place path;
  again = again;
  rest = drop (place + 1) path;
  in_order = sym (take-append-drop place path) ∙ ap (λ (xs : List ℕ). take place path ++ xs) (drop_more path place 0 walk.within);
  distinct = walk.distinct;
  goes = each_from_at (IsLowestLiveHop step n) again 0 path (λ k within. record {
    steps = (walk.goes k within).steps;
    live = next_on_path (λ (h : ℕ). IsLive step n h) path place k walk.within (λ j inside. live_on_walk step marks start path place walk n j inside);
    lowest = λ v steps live. (walk.goes k within).lowest v steps (marked v live);
  });
  front = turned.front;
  back = turned.back;
  found = sym (drop_more path place 0 walk.within) ∙ turned.found;
  turned = turned.turned_is;
  lowest = turned.lowest;
  others = turned.others;
  first = turned.first;
  least = turned.least;
}
  where
    path : List ℕ
    path = s ∷ visited

    again : ℕ
    again = get_or path place 0

    some : 0 < length path
    some = omega arith

    marked : (v : ℕ) → IsLive step n v → IsMarked marks v
    marked v live = marked_from_live step marks s bounded (walk.marked 0 0 some) v (subst (λ (m : ℕ). IsLive step m v) (sym many) live)

-- what is left when the routers before a place are cut off, turned
pub turned_to : (path moved kept seen ring : List ℕ) (place low : ℕ) → moved ≡ drop place path ++ take place path → kept ≡ take (length path - place) moved →
    seen ≡ kept → ring ≡ drop low kept ++ take low kept → low < length seen → All (λ u. get_or seen low 0 ≤ u) seen → IsTurned (drop place path) ring
turned_to path moved kept seen ring place low moved_is kept_is seen_is ring_is within least =
    let same : seen ≡ drop place path =
    seen_is ∙ kept_is ∙ ap (λ (xs : List ℕ). take (length path - place) xs) moved_is ∙ take_at (drop place path) (take place path) (length path - place)
    (length-drop place path) in
    let kept_same : kept ≡ drop place path = sym seen_is ∙ same in
    subst (λ (xs : List ℕ). IsTurned (drop place path) xs) (sym (ring_is ∙ ap (λ (xs : List ℕ). drop low xs ++ take low xs) kept_same))
    (turned_from (drop place path) low (subst (λ (xs : List ℕ). low < length xs) same within)
    (subst (λ (xs : List ℕ). All (λ u. get_or xs low 0 ≤ u) xs) same least))

-- the ring is no longer than there are routers
pub found_short : (step : ℕ → ℕ → Type 0) (n : ℕ) (ring : List ℕ) → ((u h : ℕ) → step u h → u < n) → IsFoundRing step n ring → length ring ≤ n
found_short step n ring inside found =
    let all : List ℕ = found.start ∷ found.visited in
    let below : All (λ u. u < n) all = all_from_each (IsLowestLiveHop step n) (λ u. u < n) found.again all (λ u h hop. inside u h hop.steps) found.goes in
    omega (
      arith,
      length-le_from_distinct all n found.distinct below,
      ap length found.in_order,
      length-append found.lead (found.again ∷ found.rest),
      ap length found.found,
      length-append found.front found.back,
      ap length found.turned,
      length-append found.back found.front,
    )
