use Rattle.std.proofs.lemmas.Grind.{common_steps}
use Rattle.std.proofs.Common.{ℕ, ◌≡◌, ◌≤◌, ◌<◌, List, length, get_or, Err, arith}
use Rattle.std.proofs.lemmas.Bool.{cases_lt}
use Rattle.std.proofs.lemmas.List.Sorted.{searched}
use Rattle.prefix_atoms.proofs.Ascending.{at_most_later, interval_before}
use Rattle.prefix_atoms.proofs.atoms.interval_of.Goals as goal

-- the place where a would stand isn't the first one, since the list begins with 0
place_above_zero : (xs : List ℕ) (a i : ℕ) → 0 < length xs → get_or xs 0 0 ≡ 0
    → ((k : ℕ) → i ≤ k → k < length xs → a < get_or xs k 0) → 0 < i
place_above_zero xs a i some first after = grind (arith, common_steps, cases_lt)

pub overflow_sub-result : goal.overflow_sub-result
overflow_sub-result c =
    let xs : List ℕ = c.args.starts.now in
    let s = searched xs c.args.a (Err c.in-Err.place) c.in-Err.ensures.position (λ i j l m. at_most_later xs i j c.requires.ascending l m) in
    let h : 0 < c.in-Err.place = place_above_zero xs c.args.a c.in-Err.place c.requires.some c.requires.first s.2 in
    omega arith

pub returns-in-Err : goal.returns-in-Err
returns-in-Err c =
    let xs : List ℕ = c.args.starts.now in
    let s = searched xs c.args.a (Err c.in-Err.place) c.in-Err.ensures.position (λ i j l m. at_most_later xs i j c.requires.ascending l m) in
    let h : 0 < c.in-Err.place = place_above_zero xs c.args.a c.in-Err.place c.requires.some c.requires.first s.2 in
    interval_before xs c.args.a c.in-Err.place h s.0 s.1 s.2
