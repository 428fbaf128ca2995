use Rattle.route_tables.specs.steps.Sharing.{AreOverOne, AreRouterNumbersBelow}
use Rattle.route_tables.proofs.table.all_tables.Given as goal

abbrev pub invariant-loop-router : goal.invariant-loop-router
invariant-loop-router g l = record {
  numbers : AreRouterNumbersBelow (g.P.Protocol.routes l.protocol).entry l.router (g.P.Protocol.candidates l.protocol) l.pool.entries.items l.all.items;
  single : AreOverOne (g.P.Protocol.routes l.protocol).routers l.pool.entries.items;
}
