use Rattle.std.proofs.Common.{◌≡◌, ◌++◌, map, take}
use Rattle.printed_lines.specs.Texts.{text_of}
use Rattle.survey_report.specs.TextLines.{odd_line}
use Rattle.survey_report.proofs.text_lines.with_odd_lines.Given as goal

abbrev pub invariant-loop-number : goal.invariant-loop-number
invariant-loop-number l = l.text ≡ l.initial.text ++ text_of (map (odd_line l.name) (take l.number-index l.numbers))
