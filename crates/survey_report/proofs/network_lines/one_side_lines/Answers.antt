use Rattle.std.proofs.Common.{[]}
use Rattle.net_model.specs.RouterNames.{names_of}
use Rattle.survey_report.specs.NetworkLines.{one_side_line}
use Rattle.survey_report.proofs.LineFacts.{line_more}
use Rattle.survey_report.proofs.network_lines.one_side_lines.Goals as goal

pub loop-port-preserved : goal.loop-port-preserved
loop-port-preserved c =
    line_more (one_side_line c.args.by (names_of c.args.net.now)) c.args.ports.now c.loop-port.port-index c.port-item.result [] _ _ _ c.loop-port-test.true
    c.port-item.is c.loop-port.invariant c.in_ok-one_side_line.ensures c.in_ok-text.ensures
