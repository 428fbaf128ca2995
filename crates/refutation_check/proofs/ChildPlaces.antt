-- The children of a branch, told by two places.
use Rattle.std.proofs.lemmas.Grind.{common_steps}
use Rattle.std.proofs.Common.{◌≡◌, ℕ, ◌+◌, ◌<◌, ◌≤◌, List, [], ◌∷◌, ◌++◌, length, get_or, drop, arith, sym, ap}
use Rattle.std.specs.List.{flat_map}
use Rattle.std.proofs.lemmas.List.{drop_more, drop_all}
use Rattle.order_core.specs.Pairs.{Pair}
use Rattle.refutation_check.specs.steps.Cursors.{row, pairs_left}

-- the child that is visited, and those after it in its row and in later rows
pub here_first : (olds news : List ℕ) (old new : ℕ) → new < length news
    → pairs_left olds news old new ≡ (get_or olds old 0, get_or news new 0) ∷
    (row (get_or olds old 0) (drop (new + 1) news) ++ flat_map (λ (u : ℕ). row u news) (drop (old + 1) olds))
here_first olds news old new within = grind (arith, common_steps, drop_more)

-- the next one stands in the same row
pub in_row : (olds news : List ℕ) (old new : ℕ) → new < length news → pairs_left olds news old (new + 1) ≡ drop 1 (pairs_left olds news old new)
in_row olds news old new within = sym (ap (λ (l : List Pair). drop 1 l) (here_first olds news old new within))

-- or begins the next row
pub next_row : (olds news : List ℕ) (old new : ℕ) → new < length news → length news ≤ new + 1 → old + 1 < length olds →
    pairs_left olds news (old + 1) 0 ≡ drop 1 (pairs_left olds news old new)
next_row olds news old new within last more = grind (arith, common_steps, drop_all, drop_more, here_first)

-- or there is none
pub no_more : (olds news : List ℕ) (old new : ℕ) → new < length news → length news ≤ new + 1 → length olds ≤ old + 1 →
    drop 1 (pairs_left olds news old new) ≡ []
no_more olds news old new within last over = grind (arith, common_steps, drop_all, here_first)

-- one child is left at least
pub some_left : (olds news : List ℕ) (old new : ℕ) (left : List Pair) → new < length news → pairs_left olds news old new ≡ left → 0 < length left
some_left olds news old new left within is = grind (arith, common_steps, here_first)
