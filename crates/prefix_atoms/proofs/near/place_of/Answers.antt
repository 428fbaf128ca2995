use Rattle.std.proofs.Common.{ℕ, ◌<◌, List, get_or, Ok, Err, arith}
use Rattle.std.proofs.lemmas.List.Sorted.{searched}
use Rattle.prefix_atoms.proofs.Ascending.{at_most_later, place_found}
use Rattle.prefix_atoms.proofs.near.place_of.Goals as goal

pub returns-in-Ok : goal.returns-in-Ok
returns-in-Ok c =
    let xs : List ℕ = c.args.numbers.now in
    let s = searched xs c.args.x (Ok c.in-Ok.place) c.in-Ok.ensures.position (λ i j l m. at_most_later xs i j c.requires l m) in
    place_found xs c.args.x c.in-Ok.place c.requires s.0 s.1

pub returns-in-Err : goal.returns-in-Err
returns-in-Err c =
    let xs : List ℕ = c.args.numbers.now in
    let s = searched xs c.args.x (Err c.in-Err.place) c.in-Err.ensures.position (λ i j l m. at_most_later xs i j c.requires l m) in
    record {
      within = s.0;
      before = s.1;
      after = λ k l m. let h : c.args.x < get_or xs k 0 = s.2 k l m in omega arith;
    }
