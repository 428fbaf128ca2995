use Rattle.std.proofs.Common.{◌<◌, [], List, Option, length, take, sym, ap, ◌∙◌}
use Rattle.std.specs.Prelude.{fold}
use Rattle.std.specs.List.{cons_option}
use Rattle.ios_lines.specs.Lookups.{replaced}
use Rattle.ios_reader.specs.Routers.{stub_said, is_same_area, stub_lines_in}
use Rattle.ios_lines.specs.declared.ospf_line.OspfStatement.{OspfStatement}
use Rattle.ios_lines.specs.declared.ospf_line.StubLine.{StubLine}
use Rattle.ios_lines.proofs.LineLookups.{fold_more}
use Rattle.ios_reader.proofs.areas.stub_table.Goals as goal

pub loop-statement-preserved : goal.loop-statement-preserved
loop-statement-preserved c =
    let within : c.loop-statement.statement-index < length c.args.lines.now = c.loop-statement-test.true in
    record {
      keyed = c.in_ok-add_stub.ensures.keyed;
      values =
          c.in_ok-add_stub.ensures.stubs
          ∙ ap (λ (w : List StubLine). fold (replaced is_same_area) w (cons_option c.stub_said.result [])) c.loop-statement.invariant.values
          ∙ ap (λ (o : Option StubLine). fold (replaced is_same_area) (stub_lines_in (take c.loop-statement.statement-index c.args.lines.now))
          (cons_option o [])) c.stub_said.ensures
          ∙ sym (fold_more (replaced is_same_area) (λ (s : OspfStatement). stub_said s.says) c.args.lines.now c.loop-statement.statement-index
          c.statement-item.result within c.statement-item.is);
    }
