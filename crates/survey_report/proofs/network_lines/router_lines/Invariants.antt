use Rattle.std.proofs.Common.{◌≡◌, map, take}
use Rattle.net_model.specs.RouterNames.{names_of}
use Rattle.printed_lines.specs.Texts.{text_of}
use Rattle.survey_report.specs.NetworkLines.{router_line}
use Rattle.survey_report.proofs.network_lines.router_lines.Given as goal

abbrev pub invariant-loop-router : goal.invariant-loop-router
invariant-loop-router l = l.text ≡ text_of (map (router_line l.word (names_of l.net)) (take l.router-index l.routers))
