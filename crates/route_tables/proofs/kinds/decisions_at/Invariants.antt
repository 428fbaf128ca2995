use Rattle.route_tables.specs.Lanes.{DecidesFor}
use Rattle.route_tables.specs.steps.Kinds.{AreDecided}
use Rattle.route_tables.proofs.kinds.decisions_at.Given as goal

abbrev pub invariant-loop-place : goal.invariant-loop-place
invariant-loop-place g l =
    AreDecided (DecidesFor (g.P.Protocol.routes l.protocol) l.lane) (g.P.Protocol.candidates l.protocol) l.places l.place-index l.decisions.items
