use Rattle.std.proofs.Common.{[]}
use Rattle.survey_report.specs.FaultTexts.{fault_lines}
use Rattle.survey_report.proofs.LineFacts.{lines_more}
use Rattle.survey_report.proofs.fault_lines.faults_text.Goals as goal

pub loop-one-preserved : goal.loop-one-preserved
loop-one-preserved c =
    lines_more fault_lines c.args.found.now c.loop-one.one-index c.one-item.result [] _ _ c.loop-one-test.true c.one-item.is
    c.loop-one.invariant c.in_ok-add_fault_lines.ensures
