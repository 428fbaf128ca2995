-- How many routers are marked: none, one more, one less, and not all.
use Rattle.std.proofs.lemmas.Grind.{common_steps}
use Rattle.std.proofs.Common.{◌≡◌, ℕ, suc, ◌+◌, ◌<◌, ◌≤◌, Bool, true, false, List, [], ◌∷◌, length, set}
use Rattle.std.proofs.Common.{arith, refl, length-set}
use Rattle.std.proofs.lemmas.Bool.{cases_lt, false≢true, false_from_ne_true}
use Rattle.std.proofs.lemmas.List.{get_or_past}
use Rattle.std.proofs.lemmas.List.Sums.{count_by-le-length, sum_by-set}
use Rattle.order_core.specs.Marks.{IsMarked, marked_count}

-- a marked router has a place
pub marked_in : (marks : List Bool) (r : ℕ) → IsMarked marks r → r < length marks
marked_in marks r marked = grind (arith, common_steps, cases_lt, false≢true, get_or_past)

pub marked_count-le : (marks : List Bool) → marked_count marks ≤ length marks
marked_count-le marks = count_by-le-length (λ (b : Bool). b) marks

pub marked_count-none : (marks : List Bool) → ((r : ℕ) → ¬ IsMarked marks r) → marked_count marks ≡ 0
marked_count-none [] bare = refl
marked_count-none (true ∷ marks) bare = absurd (bare 0 refl)
marked_count-none (false ∷ marks) bare = omega (arith, marked_count-none marks (λ r. bare (suc r)))

pub marked_count-more : (marks : List Bool) (r : ℕ) → r < length marks → ¬ IsMarked marks r →
    marked_count (set marks r true) ≡ marked_count marks + 1
marked_count-more marks r r_in fresh = grind (arith, common_steps, false_from_ne_true, sum_by-set)

pub marked_count-taken : (marks : List Bool) (r : ℕ) → IsMarked marks r → marked_count (set marks r false) + 1 ≡ marked_count marks
marked_count-taken marks r marked = grind (arith, common_steps, marked_in, sum_by-set)

-- where a router isn't marked, not all are
pub marked_count-room : (marks : List Bool) (r : ℕ) → r < length marks → ¬ IsMarked marks r → marked_count marks < length marks
marked_count-room marks r r_in fresh =
    omega (arith, marked_count-more marks r r_in fresh, marked_count-le (set marks r true), length-set marks r true)
