-- The rows of first hops, one vertex after another, and what they come to with the distances.
use Rattle.std.proofs.lemmas.Grind.{common_steps}
use Rattle.std.proofs.Common.{◌≡◌, ℕ, ◌+◌, ◌<◌, ◌≤◌, ◌↔◌, ◌⊎◌, List, [], ◌∷◌, ◌++◌, Option, Some, None, length, length-append, get_or, set, get_or-set_same}
use Rattle.std.proofs.Common.{get_or-set_other, Contains, sym, ap, subst, ◌∙◌, arith, inl, inr}
use Rattle.std.specs.List.{slice_get}
use Rattle.std.specs.List.Sorted.{IsStrictlyIncreasing}
use Rattle.std.proofs.Math.ListN.{get_or-eq_default}
use Rattle.std.proofs.lemmas.Bool.{cases_lt, cases_eq}
use Rattle.std.proofs.lemmas.List.{get_or_append_left, get_or_push}
use Rattle.std.proofs.lemmas.Option.{slice_get_within, slice_get-get_or, same_Some}
use borrow.Author.Count.{below_more}
use Rattle.walk_core.specs.Walks.{Arcs, FirstHop, walk_cost}
use Rattle.walk_core.specs.Distances.{distance_at}
use Rattle.walk_core.specs.steps.Rows.{AreLeastDistances, IsDistanceRow}
use Rattle.walk_core.specs.steps.FirstHops.{AreAllHops, AreFirstHops, ListFirstHops}
use Rattle.walk_core.specs.Reach.{Reach, AreLeastWalks, AreNear, AreWalksBelow}
use Rattle.walk_core.specs.steps.Ascending.{AreAscending}
use Rattle.walk_core.proofs.WalkLaws.{first_hop_has_least_cost}

-- what holds of each element so far and of one more holds of all of them
pub each_at_more : {X : Type 0} (d : X) (P : ℕ → X → Type 0) (xs : List X) (n : ℕ) (x : X) → length xs ≡ n →
    ((w : ℕ) → w < n → P w (get_or xs w d)) → P n x → (w : ℕ) → w < n + 1 → P w (get_or (xs ++ x ∷ []) w d)
each_at_more {X} d P xs n x long before last = grind (arith, common_steps, get_or_append_left, get_or_push)

-- the rows of the first ends, and of one more
pub known_more : (arc : Arcs) (ends : ℕ → ℕ × ℕ) (rows : List (List (Option ℕ))) (i to : ℕ) (row : List (Option ℕ)) → to < length rows → to ≡ (ends i).0 →
    ((j : ℕ) → j < i → AreLeastDistances arc (ends j).0 (get_or rows (ends j).0 [])) → AreLeastDistances arc to row →
    (j : ℕ) → j < i + 1 → AreLeastDistances arc (ends j).0 (get_or (set rows to row) (ends j).0 [])
known_more arc ends rows i to row within is before here = below_more (λ j. AreLeastDistances arc (ends j).0 (get_or (set rows to row) (ends j).0 [])) i old new
  where
    at_end : AreLeastDistances arc to (get_or (set rows to row) to [])
    at_end = subst (λ (r : List (Option ℕ)). AreLeastDistances arc to r) (sym (get_or-set_same rows to row [] within)) here

    old : (j : ℕ) → j < i → AreLeastDistances arc (ends j).0 (get_or (set rows to row) (ends j).0 [])
    old j below = elim (cases_eq (ends j).0 to) [
      | inl same ↦ subst (λ (n : ℕ). AreLeastDistances arc n (get_or (set rows to row) n [])) (sym same) at_end
      | inr other ↦ subst (λ (r : List (Option ℕ)). AreLeastDistances arc (ends j).0 r)
          (sym (get_or-set_other rows to (ends j).0 row [] other)) (before j below)
    ]

    new : AreLeastDistances arc (ends i).0 (get_or (set rows to row) (ends i).0 [])
    new = subst (λ (n : ℕ). AreLeastDistances arc n (get_or (set rows to row) n [])) is at_end

-- one more list that ascends
pub ascending_more : (lists : List (List ℕ)) (list : List ℕ) → AreAscending lists → IsStrictlyIncreasing list → AreAscending (lists ++ list ∷ [])
ascending_more lists list are is v =
    grind (arith, common_steps, cases_eq, cases_lt, get_or-eq_default, get_or_append_left, get_or_push)

-- an empty list that is put at a place is there, and lists that ascend still do
pub none_at : (lists : List (List ℕ)) (i : ℕ) → get_or (set lists i []) i [] ≡ []
none_at lists i = grind (arith, common_steps, cases_lt, get_or-eq_default)

pub ascending_without : (lists : List (List ℕ)) (i : ℕ) → AreAscending lists → AreAscending (set lists i [])
ascending_without lists i are v = grind (arith, common_steps, cases_eq, none_at)

-- no hops of the vertices below 0
pub no_hops_listed : (arc : Arcs) (root : ℕ) → AreFirstHops arc root 0 []
no_hops_listed arc root = grind (arith, common_steps)

-- the hops of one more vertex
pub hops_more : (arc : Arcs) (root n : ℕ) (lists : List (List ℕ)) (list : List ℕ) → AreFirstHops arc root n lists →
    ((h : ℕ) → Contains list h ↔ FirstHop arc root n h) → IsStrictlyIncreasing list → AreFirstHops arc root (n + 1) (lists ++ list ∷ [])
hops_more arc root n lists list are exact ascending = record {
  long = omega (arith, length-append lists (list ∷ []), are.long);
  exact = each_at_more [] (λ v l. (h : ℕ) → Contains l h ↔ FirstHop arc root v h) lists n list are.long are.exact exact;
  ascending = ascending_more lists list are.ascending ascending;
}

-- first hops lead only to vertices that have a distance
pub hop_below : (arc : Arcs) (root count v h : ℕ) (row : List (Option ℕ)) → IsDistanceRow arc count root row → FirstHop arc root v h → v < count
hop_below arc root count v h row is first = elim (cases_lt v count) [
  | inl below ↦ below
  | inr past ↦
      let cost = walk_cost (first.leg ∷ first.legs) in
      let none : distance_at row v ≡ None = get_or-eq_default row None (omega (arith, past, is.within)) in
      let some : distance_at row v ≡ Some cost = (is.least.least v cost).1 (first_hop_has_least_cost first) in
      absurd (cc (none, some))
]

-- the lists of all vertices, or none where no arc leaves the root, are those of every vertex
pub lists_of_all : (arc : Arcs) (root count n : ℕ) (row : List (Option ℕ)) (lists : List (List ℕ)) → IsDistanceRow arc count root row →
    AreFirstHops arc root n lists → (n ≡ count) ⊎ ((v c : ℕ) → arc root v c → ⊥) → ListFirstHops arc root lists
lists_of_all arc root count n row lists is are all v h = elim (cases_lt v n) [
  | inl below ↦ are.exact v below h
  | inr past ↦
      let no_list : get_or lists v [] ≡ [] = get_or-eq_default lists [] (omega (arith, past, are.long)) in (
        λ has. let none : Contains [] h = subst (λ (l : List ℕ). Contains l h) no_list has in absurd (omega (arith, none.1)),
        λ first. elim all [
          | inl full ↦ absurd (omega (arith, hop_below arc root count v h row is first, full, past))
          | inr alone ↦ absurd (alone first.leg.to first.leg.cost first.walk.leads.0)
        ],
      )
]

-- the walks from one more vertex, by its row and its first hops
pub walks_more : (arc : Arcs) (count u : ℕ) (walks : List Reach) (reach : Reach) → AreWalksBelow arc count u walks →
    IsDistanceRow arc count u reach.distances → ListFirstHops arc u reach.hops → AreWalksBelow arc count (u + 1) (walks ++ reach ∷ [])
walks_more arc count u walks reach before row hops = record {
  long = omega (arith, length-append walks (reach ∷ []), before.long);
  least = λ w r at. elim (place w r at) [
    | inl earlier ↦ before.least w r earlier
    | inr here ↦ subst (λ (x : ℕ). AreLeastWalks arc x r) (sym here.0) (subst (λ (x : Reach). AreLeastWalks arc u x) here.1 least)
  ];
  near = λ w r at. elim (place w r at) [
    | inl earlier ↦ before.near w r earlier
    | inr here ↦ subst (λ (x : Reach). AreNear count x) here.1 row.near
  ];
}
  where
    least : AreLeastWalks arc u reach
    least = record { distances = row.least.least; unreached = row.least.none; hops = hops }

    below_cases : (a i : ℕ) → a < i + 1 → (a < i) ⊎ (a ≡ i)
    below_cases a i h = elim (cases_lt a i) [ inl less ↦ inl less | inr not ↦ inr (omega arith) ]

    place : (w : ℕ) (r : Reach) → slice_get (walks ++ reach ∷ []) w ≡ Some r → (slice_get walks w ≡ Some r) ⊎ ((w ≡ u) × (reach ≡ r))
    place w r at =
        let within : w < length (walks ++ reach ∷ []) = slice_get_within (walks ++ reach ∷ []) w r at in
        let is : get_or (walks ++ reach ∷ []) w r ≡ r = same_Some _ _ (sym (slice_get-get_or (walks ++ reach ∷ []) w r within) ∙ at) in
        elim (below_cases w u (omega (arith, length-append walks (reach ∷ []), before.long))) [
          | inl less ↦ let inside : w < length walks = omega (arith, before.long) in
              inl (slice_get-get_or walks w r inside ∙ ap (λ (x : Reach). Some x) (sym (get_or_append_left walks (reach ∷ []) r w inside) ∙ is))
          | inr same ↦ inr (same, sym (get_or_push walks reach r w (before.long ∙ sym same)) ∙ is)
        ]

-- the first hops from one more vertex
pub all_hops_more : (arc : Arcs) (n : ℕ) (all : List (List (List ℕ))) (lists : List (List ℕ)) → AreAllHops arc n all → ListFirstHops arc n lists →
    AreAscending lists → AreAllHops arc (n + 1) (all ++ lists ∷ [])
all_hops_more arc n all lists are exact ascending = record {
  long = omega (arith, length-append all (lists ∷ []), are.long);
  exact = each_at_more [] (ListFirstHops arc) all n lists are.long are.exact exact;
  ascending = each_at_more [] (λ u l. AreAscending l) all n lists are.long are.ascending ascending;
}

-- what holds of those from a place on still holds of those behind it once that is taken out
pub rest_kept : {X : Type 0} (P : ℕ → X → Type 0) (xs : List X) (none : X) (n count : ℕ) → ((u : ℕ) → n ≤ u → u < count → P u (get_or xs u none)) →
    (u : ℕ) → n + 1 ≤ u → u < count → P u (get_or (set xs n none) u none)
rest_kept {X} P xs none n count are u past below =
    subst (λ (x : X). P u x) (sym (get_or-set_other xs n u none none (λ same. omega (arith, same, past)))) (are u (omega (arith, past)) below)
