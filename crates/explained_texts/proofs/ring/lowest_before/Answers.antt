use Rattle.std.proofs.Common.{arith, length}
use Rattle.explained_texts.proofs.ReasonLines.{old_inside}
use Rattle.explained_texts.proofs.ring.lowest_before.Goals as goal

pub unreachable-requires : goal.unreachable-requires
unreachable-requires c =
    let some = c.requires.some in
    let within = old_inside c.args.ring.now (length c.args.ranks.now) c.requires.inside some.0 some.1 in
    let past = c.loop-before-test.false in
    c.loop-before.invariant some.0 (omega (arith, within, past)) some.1 some.2
