use Rattle.std.proofs.Common.{◌<◌, length}
use Rattle.ios_lines.specs.Words.{Word}
use Rattle.ios_reader.specs.Routers.{isis_passive_said}
use Rattle.ios_lines.specs.declared.isis_line.IsisStatement.{IsisStatement}
use Rattle.ios_reader.proofs.PassiveFacts.{table_more}
use Rattle.ios_reader.proofs.passive.isis_names.Goals as goal

pub loop-statement-preserved : goal.loop-statement-preserved
loop-statement-preserved c =
    let within : c.loop-statement.statement-index < length c.args.lines.now = c.loop-statement-test.true in
    table_more (λ (name : Word) (s : IsisStatement). isis_passive_said name s.says) c.args.lines.now c.loop-statement.statement-index c.statement-item.result
    c.loop-statement.names c.add_isis.new.names
    within c.statement-item.is c.loop-statement.invariant c.in_ok-add_isis.ensures
