use Rattle.std.proofs.Common.{◌<◌, length}
use Rattle.ios_lines.specs.Words.{Word}
use Rattle.ios_reader.specs.Routers.{ospf_passive_said}
use Rattle.ios_lines.specs.declared.ospf_line.OspfStatement.{OspfStatement}
use Rattle.ios_reader.proofs.PassiveFacts.{table_more}
use Rattle.ios_reader.proofs.passive.ospf_names.Goals as goal

pub loop-statement-preserved : goal.loop-statement-preserved
loop-statement-preserved c =
    let within : c.loop-statement.statement-index < length c.args.lines.now = c.loop-statement-test.true in
    table_more (λ (name : Word) (s : OspfStatement). ospf_passive_said name s.says) c.args.lines.now c.loop-statement.statement-index c.statement-item.result
    c.loop-statement.names c.add_ospf.new.names
    within c.statement-item.is c.loop-statement.invariant c.in_ok-add_ospf.ensures
