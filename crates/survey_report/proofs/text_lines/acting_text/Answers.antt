use Rattle.std.proofs.Common.{[]}
use Rattle.survey_report.specs.TextLines.{acting_lines}
use Rattle.survey_report.proofs.LineFacts.{lines_more}
use Rattle.survey_report.proofs.text_lines.acting_text.Goals as goal

pub loop-file-preserved : goal.loop-file-preserved
loop-file-preserved c =
    lines_more acting_lines c.args.files.now c.loop-file.file-index c.file-item.result [] _ _ c.loop-file-test.true c.file-item.is c.loop-file.invariant
    c.in_ok-add_acting.ensures
