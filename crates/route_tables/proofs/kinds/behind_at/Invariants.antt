use Rattle.route_tables.specs.Lanes.{DecidesBehind}
use Rattle.route_tables.specs.steps.Kinds.{AreDecidedBehind}
use Rattle.route_tables.proofs.kinds.behind_at.Given as goal

abbrev pub invariant-loop-place : goal.invariant-loop-place
invariant-loop-place g l =
    AreDecidedBehind (DecidesBehind (g.P.Protocol.routes l.protocol) l.lane l.zone) (g.P.Protocol.candidates l.protocol) l.places l.place-index
    l.decisions.items
