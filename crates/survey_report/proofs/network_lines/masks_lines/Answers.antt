use Rattle.std.proofs.Common.{[]}
use Rattle.net_model.specs.RouterNames.{names_of}
use Rattle.survey_report.specs.NetworkLines.{masks_line}
use Rattle.survey_report.proofs.LineFacts.{line_more}
use Rattle.survey_report.proofs.network_lines.masks_lines.Goals as goal

pub loop-pair-preserved : goal.loop-pair-preserved
loop-pair-preserved c =
    line_more (masks_line (names_of c.args.net.now)) c.args.pairs.now c.loop-pair.pair-index c.pair-item.result [] _ _ _ c.loop-pair-test.true
    c.pair-item.is c.loop-pair.invariant c.in_ok-masks_line.ensures c.in_ok-text.ensures
