use Rattle.std.proofs.Common.{◌≡◌, map, take}
use Rattle.net_model.specs.RouterNames.{names_of}
use Rattle.printed_lines.specs.Texts.{text_of}
use Rattle.survey_report.specs.NetworkLines.{half_line}
use Rattle.survey_report.proofs.network_lines.half_lines.Given as goal

abbrev pub invariant-loop-port : goal.invariant-loop-port
invariant-loop-port l = l.text ≡ text_of (map (half_line (names_of l.net)) (take l.port-index l.ports))
