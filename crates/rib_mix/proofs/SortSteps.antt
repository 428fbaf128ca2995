-- Sorts as they are found, one prefix after another.
use Rattle.std.proofs.lemmas.Grind.{common_steps}
use Rattle.std.proofs.Common.{◌≡◌, ℕ, ◌+◌, ◌<◌, ◌≤◌, ◌++◌, ◌∷◌, [], List, Option, Some, None, IfSome, length, get_or, ap, arith}
use Rattle.std.proofs.Common.{refl, sym, subst, ◌∙◌}
use Rattle.std.proofs.Common.{length-append}
use Rattle.std.proofs.lemmas.Bool.{cases_lt}
use Rattle.std.proofs.lemmas.List.{get_or_append_left, get_or_push}
use Rattle.rib_mix.specs.steps.Sorts.{AreEarlierPlaces, AreSorts, IsOfSort, sort_at}
use Rattle.rib_mix.specs.declared.sorts.Sorts.{Sorts}

-- what holds of each element and of one more holds of each
pushed : {X : Type 0} (P : ℕ → X → Type 0) (xs : List X) (x d : X) → ((k : ℕ) → k < length xs → P k (get_or xs k d))
    → P (length xs) x
    → (k : ℕ) → k < length (xs ++ x ∷ []) → P k (get_or (xs ++ x ∷ []) k d)
pushed P xs x d each here k within = grind (arith, common_steps, cases_lt, get_or_append_left, get_or_push)

-- an earlier place has the sort that it had
pub sort_kept : (of_places : List ℕ) (sort : ℕ) (o : Option ℕ) → IfSome o (λ j. j < length of_places)
    → sort_at of_places o ≡ sort_at (of_places ++ sort ∷ []) o
sort_kept of_places sort None before = refl
sort_kept of_places sort (Some j) before = ap Some (sym (get_or_append_left of_places (sort ∷ []) 0 j before))

-- there are no sorts before the first prefix
pub no_sorts : (like : ℕ → ℕ → Type 0) (parents : List (Option ℕ)) (sorts : Sorts) → sorts.of_places.items ≡ []
    → sorts.firsts.items ≡ []
    → sorts.parents.items ≡ [] → AreSorts like parents 0 sorts
no_sorts like parents sorts of_is firsts_are parents_are = grind (arith, common_steps)

-- what is before a place is before a later one
pub still_before : (n place : ℕ) (o : Option ℕ) → place ≤ n → IfSome o (λ j. j < place) → IfSome o (λ j. j < n)
still_before n place None within before = tt
still_before n place (Some j) within before = omega arith

-- a place within has a sort within
pub sort_inside : (of_places : List ℕ) (sorts : ℕ) (o : Option ℕ) → ((i : ℕ) → i < length of_places
    → get_or of_places i 0 < sorts)
    → IfSome o (λ place. place < length of_places) → IfSome (sort_at of_places o) (λ sort. sort < sorts)
sort_inside of_places sorts None below within = tt
sort_inside of_places sorts (Some place) below within = below place within

-- the next prefix takes its sort
pub sort_taken : (like : ℕ → ℕ → Type 0) (parents : List (Option ℕ)) (n : ℕ) (old new : Sorts) (sort : ℕ) → n < length parents
    → AreEarlierPlaces parents → AreSorts like parents n old → IsOfSort like parents old n sort
    → new.of_places.items ≡ old.of_places.items ++ sort ∷ []
    → new.firsts.items ≡ old.firsts.items → new.parents.items ≡ old.parents.items → AreSorts like parents (n + 1) new
sort_taken like parents n old new sort next earlier are is of_is firsts_are parents_are = record {
  count = more;
  sorting = record {
    count = ap length parents_are ∙ are.sorting.count ∙ sym (ap length firsts_are);
    firsts = λ s below. subst (λ (fs : List ℕ). get_or fs s 0 < length parents) (sym firsts_are)
        (are.sorting.firsts s (omega (arith, below, ap length firsts_are)));
    parents = λ s below. subst (λ (ps : List (Option ℕ)). IfSome (get_or ps s None) (λ up. up < s)) (sym parents_are)
        (are.sorting.parents s (omega (arith, below, ap length firsts_are)));
    within = λ i below. (grown i (omega (arith, below, more))).within;
  };
  each = grown;
}
  where
    more : length new.of_places.items ≡ n + 1
    more = ap length of_is ∙ length-append old.of_places.items (sort ∷ []) ∙ ap (λ (m : ℕ). m + 1) are.count

    kept : (k s : ℕ) → k ≤ n → IsOfSort like parents old k s → IsOfSort like parents new k s
    kept k s below of_sort = record {
      within = omega (arith, of_sort.within, ap length firsts_are);
      like_first = subst (λ (fs : List ℕ). like k (get_or fs s 0)) (sym firsts_are) of_sort.like_first;
      parent = ap (λ (ps : List (Option ℕ)). get_or ps s None) parents_are ∙ of_sort.parent
          ∙ sort_kept old.of_places.items sort (get_or parents k None)
          (still_before (length old.of_places.items) k (get_or parents k None) (omega (arith, below, are.count))
          (earlier k (omega (arith, below, next))))
          ∙ ap (λ (os : List ℕ). sort_at os (get_or parents k None)) (sym of_is);
    }

    grown : (i : ℕ) → i < n + 1 → IsOfSort like parents new i (get_or new.of_places.items i 0)
    grown i below =
        subst (λ (os : List ℕ). IsOfSort like parents new i (get_or os i 0)) (sym of_is)
        (pushed (λ (k s : ℕ). IsOfSort like parents new k s) old.of_places.items sort 0
        (λ k within. kept k (get_or old.of_places.items k 0) (omega (arith, within, are.count)) (are.each k (omega
        (arith, within, are.count))))
        (subst (λ (m : ℕ). IsOfSort like parents new m sort) (sym are.count) (kept n sort (omega arith) is)) i
        (omega (arith, below, are.count, length-append old.of_places.items (sort ∷ []))))

-- a new sort, and the next prefix is of it
pub record IsAdded (like : ℕ → ℕ → Type 0) (parents : List (Option ℕ)) (n sort : ℕ) (new : Sorts) : Type 0 where
  pub sorts : AreSorts like parents n new
  pub is : IsOfSort like parents new n sort

pub sort_added : (like : ℕ → ℕ → Type 0) (parents : List (Option ℕ)) (old new : Sorts) (parent : Option ℕ)
    → ((i : ℕ) → like i i) → length old.of_places.items < length parents → AreEarlierPlaces parents
    → AreSorts like parents (length old.of_places.items) old → parent ≡ sort_at old.of_places.items (get_or parents
    (length old.of_places.items) None)
    → new.of_places.items ≡ old.of_places.items → new.firsts.items ≡ old.firsts.items ++ length old.of_places.items ∷ []
    → new.parents.items ≡ old.parents.items ++ parent ∷ [] → IsAdded like parents (length old.of_places.items)
    (length old.firsts.items) new
sort_added like parents old new parent itself next earlier are parent_is of_is firsts_are parents_are = record {
  sorts = record {
    count = ap length of_is;
    sorting = record {
      count = omega (arith, more_firsts, more_parents, are.sorting.count);
      firsts = λ s below. subst (λ (fs : List ℕ). get_or fs s 0 < length parents) (sym firsts_are)
          (pushed (λ (k f : ℕ). f < length parents) old.firsts.items n 0 are.sorting.firsts next s
          (omega (arith, below, more_firsts, length-append old.firsts.items (n ∷ []))));
      parents = λ s below. subst (λ (ps : List (Option ℕ)). IfSome (get_or ps s None) (λ up. up < s)) (sym parents_are)
          (pushed (λ (k : ℕ) (o : Option ℕ). IfSome o (λ up. up < k)) old.parents.items parent None
          (λ k within. are.sorting.parents k (omega (arith, within, are.sorting.count))) parent_before s
          (omega (arith, below, more_firsts, are.sorting.count, length-append old.parents.items (parent ∷ []))));
      within = λ i below. (kept i (omega (arith, below, ap length of_is))).within;
    };
    each = kept;
  };
  is = record {
    within = omega (arith, more_firsts);
    like_first = subst (like n) (sym (ap (λ (fs : List ℕ). get_or fs (length old.firsts.items) 0) firsts_are
        ∙ get_or_push old.firsts.items n 0 (length old.firsts.items) refl)) (itself n);
    parent = ap (λ (ps : List (Option ℕ)). get_or ps (length old.firsts.items) None) parents_are
        ∙ get_or_push old.parents.items parent None (length old.firsts.items) are.sorting.count ∙ parent_is
        ∙ ap (λ (os : List ℕ). sort_at os (get_or parents n None)) (sym of_is);
  };
}
  where
    n : ℕ
    n = length old.of_places.items

    more_firsts : length new.firsts.items ≡ length old.firsts.items + 1
    more_firsts = ap length firsts_are ∙ length-append old.firsts.items (n ∷ [])

    more_parents : length new.parents.items ≡ length old.parents.items + 1
    more_parents = ap length parents_are ∙ length-append old.parents.items (parent ∷ [])

    parent_before : IfSome parent (λ up. up < length old.parents.items)
    parent_before =
        subst (λ (o : Option ℕ). IfSome o (λ up. up < length old.parents.items)) (sym parent_is)
        (sort_inside old.of_places.items (length old.parents.items) (get_or parents n None)
        (λ i below. let within = are.sorting.within i below in omega (arith, within, are.sorting.count)) (earlier n next))

    kept : (i : ℕ) → i < n → IsOfSort like parents new i (get_or new.of_places.items i 0)
    kept i below =
        let sort : ℕ = get_or old.of_places.items i 0 in
        let of_sort = are.each i below in
        let within : sort < length old.firsts.items = of_sort.within in
        subst (λ (os : List ℕ). IsOfSort like parents new i (get_or os i 0)) (sym of_is) (record {
          within = omega (arith, within, more_firsts);
          like_first = subst (like i) (sym (ap (λ (fs : List ℕ). get_or fs sort 0) firsts_are
              ∙ get_or_append_left old.firsts.items (n ∷ []) 0 sort within)) of_sort.like_first;
          parent = ap (λ (ps : List (Option ℕ)). get_or ps sort None) parents_are
              ∙ get_or_append_left old.parents.items (parent ∷ []) None sort (omega (arith, within, are.sorting.count))
              ∙ of_sort.parent
              ∙ ap (λ (os : List ℕ). sort_at os (get_or parents i None)) (sym of_is);
        })
