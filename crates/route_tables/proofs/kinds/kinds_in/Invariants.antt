use Rattle.route_tables.specs.Protocols.{AreAlikeInLane}
use Rattle.route_tables.specs.steps.Kinds.{AreKinds}
use Rattle.route_tables.proofs.kinds.kinds_in.Given as goal

abbrev pub invariant-loop-place : goal.invariant-loop-place
invariant-loop-place g l =
    AreKinds (AreAlikeInLane (g.P.Protocol.routes l.protocol) l.lane) (g.P.Protocol.candidates l.protocol) l.place l.kinds.items l.firsts.items
