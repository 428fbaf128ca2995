use Rattle.std.proofs.Common.{◌<◌, [], List, Option, length, take, sym, ap, ◌∙◌}
use Rattle.std.specs.Prelude.{fold}
use Rattle.std.specs.List.{cons_option}
use Rattle.ios_lines.specs.Lookups.{replaced}
use Rattle.ios_reader.specs.Routers.{range_said, is_same_range, ranges_in}
use Rattle.ios_lines.specs.declared.ospf_line.OspfStatement.{OspfStatement}
use Rattle.net_model.specs.declared.area.Range.{Range}
use Rattle.ios_lines.proofs.LineLookups.{fold_more}
use Rattle.ios_reader.proofs.areas.range_table.Goals as goal

pub loop-statement-preserved : goal.loop-statement-preserved
loop-statement-preserved c =
    let within : c.loop-statement.statement-index < length c.args.lines.now = c.loop-statement-test.true in
    record {
      keyed = c.in_ok-add_range.ensures.keyed;
      values =
          c.in_ok-add_range.ensures.ranges
          ∙ ap (λ (w : List Range). fold (replaced is_same_range) w (cons_option c.range_said.result [])) c.loop-statement.invariant.values
          ∙ ap (λ (o : Option Range). fold (replaced is_same_range) (ranges_in (take c.loop-statement.statement-index c.args.lines.now)) (cons_option o []))
          c.range_said.ensures
          ∙ sym (fold_more (replaced is_same_range) (λ (s : OspfStatement). range_said s.says) c.args.lines.now c.loop-statement.statement-index
          c.statement-item.result within c.statement-item.is);
    }
