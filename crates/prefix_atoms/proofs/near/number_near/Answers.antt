use Rattle.std.proofs.Common.{◌≡◌, ◌<◌, length, get_or, arith}
use Rattle.prefix_atoms.proofs.Ascending.{place_found}
use Rattle.prefix_atoms.proofs.near.number_near.Goals as goal

pub returns-then-numbers-from : goal.returns-then-numbers-from
returns-then-numbers-from c =
    let within : c.args.from < length c.args.numbers.now = omega arith in
    let same : get_or c.args.numbers.now c.args.from 0 ≡ c.args.x = omega arith in
    place_found c.args.numbers.now c.args.x c.args.from c.requires within same
