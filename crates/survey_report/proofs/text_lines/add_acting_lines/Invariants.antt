use Rattle.std.proofs.Common.{◌≡◌, ◌++◌, filter, map, take}
use Rattle.printed_lines.specs.Texts.{text_of}
use Rattle.text_survey.specs.ActingForms.{acts}
use Rattle.survey_report.specs.TextLines.{acting_line}
use Rattle.survey_report.proofs.text_lines.add_acting_lines.Given as goal

abbrev pub invariant-loop-line : goal.invariant-loop-line
invariant-loop-line l = l.text.items ≡ l.initial.text.items ++ text_of (map (acting_line l.name) (filter acts (take l.line-index l.lines)))
