-- What a list has after a sort and the removal of repeats.
use Rattle.std.proofs.lemmas.Grind.{common_steps}
use Rattle.std.proofs.Common.{◌≡◌, ℕ, ◌+◌, ◌<◌, ◌≤◌, inl, inr, ⊎_elim, arith}
use Rattle.std.proofs.Common.{false, List, get_or, Ordering, Contains, IsPermutation, eqb, refl, sym}
use Rattle.std.proofs.Common.{subst, ◌↔◌, ◌∙◌, ap, length, Result, Ok, Err, IfOk, IfNone, IfSome, Some, slice_get}
use Rattle.std.specs.List.{HoldsAt}
use Rattle.std.specs.List.Sorted.{IsBinarySearchResult, IsSearchInRange}
use Rattle.std.proofs.lemmas.Bool.{cases_lt}
use Rattle.std.specs.Result.{result_ok}
use Rattle.std.specs.Ordering.{is_eq, is_lt}
use Rattle.std.proofs.lemmas.Option.{slice_get-get_or}
use Rattle.std.specs.Cmp.{tied_itself}
use Rattle.std.specs.Cmp.{ranked}
use Rattle.std.specs.Ordering.{nat_cmp, ordering_then}
use Rattle.std.specs.declared.cmp.Ordering.TheVariants.{Less, Equal, Greater}
use Rattle.std.specs.List.{dedup}
use Rattle.std.specs.List.Sorted.{IsSorted, IsStrictlyIncreasing}
use Rattle.std.proofs.lemmas.List.Sorted.{Contains-permutation, IsPermutation-sym, searchable_from_sorted}
use Rattle.std.proofs.lemmas.List.Kept.{Contains-dedup_nat, Contains-from_dedup}
use Rattle.std.proofs.lemmas.Map.Keys.{Less-from_sorted, IsStrictlyIncreasing-dedup}
use Rattle.net_addr.specs.Addresses.{Block}
use Rattle.net_addr.proofs.BlockOrder.{block_cmp, block_eq, block_same, block_ties, block_total, sorted_once}
use Rattle.prefix_atoms.specs.Nested.{StandsBefore, AreAscendingPrefixes}

-- where a search in a list found a prefix, it stands
pub prefix_found : (xs : List Block) (p : Block) (r : Result ℕ ℕ) → IsSearchInRange r (length xs)
    → IfOk r (HoldsAt (λ (q : Block). block_cmp q p ≡ Equal) xs) → IfSome (result_ok r) (λ place. slice_get xs place ≡ Some p)
prefix_found xs p (Ok place) within tied =
    let same : get_or xs place p ≡ p = block_same (get_or xs place p) p (block_ties (get_or xs place p) p ∙ ap is_eq (tied p)) in
    slice_get-get_or xs place p within ∙ ap Some same
prefix_found xs p (Err place) within tied = tt

-- what the order says of two prefixes
less_stands : (x y : Block) → block_cmp x y ≡ Less → StandsBefore x y
less_stands x y less = by_base (nat_cmp x.base y.base) refl less
  where
    by_base : (o : Ordering) → o ≡ nat_cmp x.base y.base → ordering_then o (nat_cmp x.len y.len) ≡ Less → StandsBefore x y
    by_base Less at rest = inl (ranked x.base y.base Less at)
    by_base Equal at rest = inr (ranked x.base y.base Equal at, ranked x.len y.len Less (sym rest))
    by_base Greater at rest = cc

-- and they ascend
pub prefixes_ascend : (ys zs : List Block) → IsSorted block_cmp ys → zs ≡ dedup block_eq ys → AreAscendingPrefixes zs
prefixes_ascend ys zs up is i j d l h =
    less_stands (get_or zs i d) (get_or zs j d) (Less-from_sorted block_cmp zs i j d (sorted_once ys zs up is) l h)

-- of two prefixes one stands before the other
one_way : (p q : Block) → StandsBefore p q → StandsBefore q p → ⊥
one_way p q first second = grind (arith, common_steps)

-- so a search in them is answered
ascending_sorted : (xs : List Block) → AreAscendingPrefixes xs → IsSorted block_cmp xs
ascending_sorted xs up k d low l = by_order (block_cmp (get_or xs (k + 1) d) (get_or xs k d)) refl
  where
    by_order : (o : Ordering) → block_cmp (get_or xs (k + 1) d) (get_or xs k d) ≡ o → is_lt o ≡ false
    by_order Less at = absurd (one_way (get_or xs k d) (get_or xs (k + 1) d) (up k (k + 1) d (omega arith) l)
        (less_stands (get_or xs (k + 1) d) (get_or xs k d) at))
    by_order Equal at = refl
    by_order Greater at = refl

-- where a search in an ascending list found none, the prefix isn't in the list
pub prefix_missed : (xs : List Block) (p : Block) (r : Result ℕ ℕ) → IsBinarySearchResult (λ (q : Block). block_cmp q p) xs r → AreAscendingPrefixes xs
    → IfNone (result_ok r) (¬ Contains xs p)
prefix_missed xs p (Ok place) position up = tt
prefix_missed xs p (Err place) position up = λ has.
    let point = position (searchable_from_sorted block_total (λ (q : Block). q) xs p (ascending_sorted xs up)) in
    let tied : block_cmp (get_or xs has.0 p) p ≡ Equal =
    subst (λ (q : Block). block_cmp q p ≡ Equal) (sym has.2) (tied_itself block_total p) in
    ⊎_elim
    (λ (l : has.0 < place). let less : block_cmp (get_or xs has.0 p) p ≡ Less = point.0 has.0 p (omega arith) l in let none : ⊥ = cc in none)
    (λ (l : place ≤ has.0). let more : block_cmp (get_or xs has.0 p) p ≡ Greater = point.1 has.0 p l has.1 in let none : ⊥ = cc in none)
    (cases_lt has.0 place)

pub same_numbers : (xs ys zs : List ℕ) (n : ℕ) → IsPermutation xs ys → zs ≡ dedup eqb ys → Contains zs n ↔ Contains xs n
same_numbers xs ys zs n moved is = (
  λ c. Contains-permutation ys xs n (IsPermutation-sym xs ys moved) (Contains-from_dedup eqb ys n (subst (λ l. Contains l n) is c)),
  λ c. subst (λ l. Contains l n) (sym is) (Contains-dedup_nat ys n (Contains-permutation xs ys n moved c)),
)

pub numbers_ascend : (ys zs : List ℕ) → IsSorted nat_cmp ys → zs ≡ dedup eqb ys → IsStrictlyIncreasing zs
numbers_ascend ys zs up is = subst IsStrictlyIncreasing (sym is) (IsStrictlyIncreasing-dedup ys up)
