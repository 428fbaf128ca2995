use Rattle.std.proofs.Common.{◌≡◌, map, take}
use Rattle.net_model.specs.RouterNames.{names_of}
use Rattle.printed_lines.specs.Texts.{text_of}
use Rattle.survey_report.specs.NetworkLines.{uneven_line}
use Rattle.survey_report.proofs.network_lines.uneven_lines.Given as goal

abbrev pub invariant-loop-pair : goal.invariant-loop-pair
invariant-loop-pair l = l.text ≡ text_of (map (uneven_line l.by (names_of l.net)) (take l.pair-index l.pairs))
