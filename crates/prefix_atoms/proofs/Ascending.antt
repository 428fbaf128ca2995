-- Ascending lists of numbers: places, intervals, and how long they may be.
use Rattle.std.proofs.lemmas.Grind.{common_steps}
use Rattle.std.proofs.Common.{◌≡◌, ℕ, zero, suc, ◌+◌, ◌-◌, ◌<◌, ◌≤◌, List, length, get_or, All, Contains, ⊎_elim, arith, subst, ◌∙◌}
use Rattle.std.proofs.lemmas.Bool.{cases_lt}
use Rattle.std.proofs.lemmas.List.{get_or_default}
use Rattle.std.proofs.lemmas.List.Kept.{AllPairs-from_increasing}
use Rattle.std.specs.List.Sorted.{IsStrictlyIncreasing}
use Rattle.prefix_atoms.specs.steps.Lists.{IsPlaceOf}
use Rattle.prefix_atoms.specs.Numbers.{InInterval}

-- a number is below each later one
pub below_later : (xs : List ℕ) (i j : ℕ) → IsStrictlyIncreasing xs → i < j → j < length xs → get_or xs i 0 < get_or xs j 0
below_later xs i j up before within = AllPairs-from_increasing xs up i j 0 before within

-- a number isn't above itself or a later one
pub at_most_later : (xs : List ℕ) (i j : ℕ) → IsStrictlyIncreasing xs → i ≤ j → j < length xs → get_or xs i 0 ≤ get_or xs j 0
at_most_later xs i j up before within = ⊎_elim
    (λ (l : i < j). let h : get_or xs i 0 < get_or xs j 0 = below_later xs i j up l within in omega arith)
    (λ (l : j ≤ i). let e : i ≡ j = omega arith in subst (λ (k : ℕ). get_or xs i 0 ≤ get_or xs k 0) e (omega arith))
    (cases_lt i j)

-- where x stands, it has its place
pub place_found : (xs : List ℕ) (x i : ℕ) → IsStrictlyIncreasing xs → i < length xs → get_or xs i 0 ≡ x → IsPlaceOf xs x i
place_found xs x i up within at = grind (arith, common_steps, at_most_later, below_later)

-- where a doesn't stand, the place before the one where it would stand is that of its interval
pub interval_before : (xs : List ℕ) (a i : ℕ) → 0 < i → i ≤ length xs → ((k : ℕ) → k < i → get_or xs k 0 < a)
    → ((k : ℕ) → i ≤ k → k < length xs → a < get_or xs k 0) → InInterval xs (i - 1) a
interval_before xs a i some within before after = grind (arith, common_steps)

-- a number of the list that isn't above a isn't above the start of a's interval
pub start_is_last : (xs : List ℕ) (i a c : ℕ) → IsStrictlyIncreasing xs → InInterval xs i a → Contains xs c → c ≤ a → c ≤ get_or xs i 0
start_is_last xs i a c up inside has low =
    let at : get_or xs has.0 0 ≡ c = get_or_default xs has.0 0 c has.1 ∙ has.2 in
    ⊎_elim
    (λ (l : i < has.0).
    let h : get_or xs (i + 1) 0 ≤ get_or xs has.0 0 = at_most_later xs (i + 1) has.0 up (omega arith) has.1 in
    let m : i + 1 < length xs = omega (arith, has.1) in
    let k : a < get_or xs (i + 1) 0 = inside.before m in
    absurd (omega arith))
    (λ (l : has.0 ≤ i). let h : get_or xs has.0 0 ≤ get_or xs i 0 = at_most_later xs has.0 i up l inside.within in omega arith)
    (cases_lt i has.0)

-- each number is at least its place
at_least_place : (xs : List ℕ) (k : ℕ) → IsStrictlyIncreasing xs → k < length xs → k ≤ get_or xs k 0
at_least_place xs zero up within = omega arith
at_least_place xs (suc k) up within =
    let h : k ≤ get_or xs k 0 = at_least_place xs k up (omega arith) in
    let l : get_or xs k 0 < get_or xs (suc k) 0 = below_later xs k (suc k) up (omega arith) within in
    omega arith

-- an ascending list of numbers below n has at most n
pub length_below : (xs : List ℕ) (n : ℕ) → IsStrictlyIncreasing xs → All (λ x. x < n) xs → length xs ≤ n
length_below xs n up below = grind (arith, common_steps, at_least_place, cases_lt)
