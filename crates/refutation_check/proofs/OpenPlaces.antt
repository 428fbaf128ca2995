-- The open places along a path: one branch deeper, or behind the place at its end.
use Rattle.std.proofs.lemmas.Grind.{common_steps}
use Rattle.std.proofs.Common.{◌≡◌, ◌-◌, ◌<◌, Bool, cond, List, [], ◌∷◌, ◌++◌, length, take, drop, map, reverse, arith}
use Rattle.std.proofs.lemmas.List.{take_at, reverse-append}
use Rattle.order_core.specs.Pairs.{Pair}
use Rattle.order_search.specs.Trees.{Place}
use Rattle.refutation_check.specs.steps.Walks.{pairs_along, places_after, places_from}

first_is : (x y : Place) (xs ys : List Place) → x ∷ xs ≡ y ∷ ys → x ≡ y
first_is x y xs ys e = cc

rest_is : (x y : Place) (xs ys : List Place) → x ∷ xs ≡ y ∷ ys → xs ≡ ys
rest_is x y xs ys e = cc

-- one branch deeper: its children are open before the other places
pub entered : (is_open : Bool) (children : List Pair) (path : List (List Pair)) (place : Place) (left : List Place) → 0 < length children →
    cond is_open (places_from path) [] ≡ place ∷ left
    → cond is_open (places_from (children ∷ path)) [] ≡ map (λ (p : Pair). place ++ p ∷ []) children ++ left
entered is_open children path place left some e = grind (arith, common_steps, first_is, rest_is)

-- behind the last child of a branch the places are those after the branch
pub last_child : (children : List Pair) (path : List (List Pair)) → drop 1 children ≡ [] → places_after (children ∷ path) ≡ places_after path
last_child children path none = grind (arith, common_steps)

-- a branch assumes one pair besides those above it
pub along_more : (children : List Pair) (path : List (List Pair)) → 0 < length children →
    pairs_along (children ∷ path) ≡ pairs_along path ++ take 1 children
along_more children path some = grind (arith, common_steps)

-- which it takes back
pub along_back : (children : List Pair) (path : List (List Pair)) (pairs : List Pair) → 0 < length children → pairs ≡ pairs_along (children ∷ path) →
    take (length pairs - 1) pairs ≡ pairs_along path
along_back children path pairs some e = grind (arith, common_steps, take_at)

-- the path with one branch more at its end
pub reverse-push : (cursors : List (List Pair)) (c : List Pair) → reverse (cursors ++ c ∷ []) ≡ c ∷ reverse cursors
reverse-push cursors c = reverse-append cursors (c ∷ [])
