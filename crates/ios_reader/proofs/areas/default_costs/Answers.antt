use Rattle.std.proofs.Common.{◌<◌, ℕ, length}
use Rattle.ios_reader.specs.Routers.{default_cost_said}
use Rattle.ios_lines.specs.declared.ospf_line.OspfStatement.{OspfStatement}
use Rattle.ios_reader.proofs.KeyedFacts.{lookup_more}
use Rattle.ios_reader.proofs.areas.default_costs.Goals as goal

pub loop-statement-preserved : goal.loop-statement-preserved
loop-statement-preserved c =
    let within : c.loop-statement.statement-index < length c.args.lines.now = c.loop-statement-test.true in
    lookup_more (λ (area : ℕ) (s : OspfStatement). default_cost_said area s.says) c.args.lines.now c.loop-statement.statement-index c.statement-item.result
    c.loop-statement.costs.entries c.add_default_cost.new.costs.entries
    within c.statement-item.is c.loop-statement.invariant c.in_ok-add_default_cost.ensures
