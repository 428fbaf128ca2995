use Rattle.std.proofs.Common.{◌≡◌, ◌<◌, length, get_or, arith}
use Rattle.prefix_atoms.proofs.Ascending.{place_found}
use Rattle.prefix_atoms.proofs.near.number_behind.Goals as goal

pub returns-then-numbers-place : goal.returns-then-numbers-place
returns-then-numbers-place c =
    let within : c.loop-place.place < length c.args.numbers.now = omega arith in
    let same : get_or c.args.numbers.now c.loop-place.place 0 ≡ c.args.x = omega arith in
    place_found c.args.numbers.now c.args.x c.loop-place.place c.requires within same
