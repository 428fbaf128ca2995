use Rattle.route_tables.specs.steps.Kinds.{AreLanesBelow}
use Rattle.route_tables.proofs.kinds.all_kinds.Given as goal

abbrev pub invariant-loop-lane : goal.invariant-loop-lane
invariant-loop-lane g l = AreLanesBelow (g.P.Protocol.routes l.protocol) (g.P.Protocol.candidates l.protocol) l.lane l.all.items
