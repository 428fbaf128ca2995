use Rattle.std.proofs.Common.{◌≡◌, take}
use Rattle.std.specs.List.{flat_map}
use Rattle.printed_lines.specs.Texts.{text_of}
use Rattle.survey_report.specs.TextLines.{acting_lines}
use Rattle.survey_report.proofs.text_lines.acting_text.Given as goal

abbrev pub invariant-loop-file : goal.invariant-loop-file
invariant-loop-file l = l.text.items ≡ text_of (flat_map acting_lines (take l.file-index l.files))
