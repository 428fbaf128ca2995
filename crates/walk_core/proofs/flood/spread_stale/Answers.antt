use Rattle.std.proofs.Common.{arith}
use Rattle.walk_core.proofs.StaleLaws.{one_mark_less, settled_there}
use Rattle.walk_core.proofs.flood.spread_stale.Goals as goal

pub returns-clause-settled : goal.returns-clause-settled
returns-clause-settled c =
    settled_there c.args.graph.now.segments c.args.u c.spread_from.new.flood.distances.items c.spread_from.new.flood.stale.items
    c.spread_from.ensures.settled c.spread_from.ensures.tight

pub returns-clause-less : goal.returns-clause-less
returns-clause-less c =
    omega (arith, c.spread_from.ensures.left, one_mark_less c.spread_from.new.flood.stale.items c.args.u (c.spread_from.ensures.marked c.requires.stale))
