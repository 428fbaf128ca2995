use Rattle.std.proofs.Common.{◌≤◌, ℕ, length}
use Rattle.std.specs.Vec.{vec_capacity}
use Rattle.route_tables.specs.steps.Kinds.{first_prefix_of}
use Rattle.route_tables.specs.steps.Leads.{AreLaneLeads}
use Rattle.route_tables.specs.steps.Sharing.{AreNumbers, AreOverOne, KeepsMore}
use Rattle.route_tables.proofs.table.numbers_at.Given as goal

abbrev pub invariant-loop-kind : goal.invariant-loop-kind
invariant-loop-kind g l = record {
  numbers : AreNumbers (λ (kind : ℕ). (g.P.Protocol.routes l.protocol).entry l.lane.router
      (first_prefix_of (g.P.Protocol.candidates l.protocol) l.lane.firsts.now kind)) l.kind
      l.pool.entries.items l.numbers.items;
  leads : AreLaneLeads l.lane l.pool.entries.items l.led.leads.now l.led.behind.now;
  single : AreOverOne (g.P.Protocol.routes l.protocol).routers l.pool.entries.items;
  room : length l.lane.firsts.now ≤ vec_capacity l.numbers;
  kept : KeepsMore l.initial.pool l.pool;
}
