use Rattle.std.proofs.Common.{◌≡◌, ◌+◌, length}
use Rattle.route_tables.specs.steps.Leads.{AreLeadsBelow}
use Rattle.route_tables.specs.steps.Sharing.{AreOverOne, KeepsMore}
use Rattle.route_tables.proofs.leads.leads_along.Given as goal

abbrev pub invariant-loop-step : goal.invariant-loop-step
invariant-loop-step l = record {
  long : length l.all.items ≡ l.walked.count;
  leads : AreLeadsBelow l.walked.walks.now l.walked.count (l.walked.stretch.first + l.step) l.pool.entries.items l.all.items;
  single : AreOverOne l.walked.count l.pool.entries.items;
  kept : KeepsMore l.initial.pool l.pool;
}
