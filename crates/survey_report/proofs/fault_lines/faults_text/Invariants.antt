use Rattle.std.proofs.Common.{◌≡◌, take}
use Rattle.std.specs.List.{flat_map}
use Rattle.printed_lines.specs.Texts.{text_of}
use Rattle.survey_report.specs.FaultTexts.{fault_lines}
use Rattle.survey_report.proofs.fault_lines.faults_text.Given as goal

abbrev pub invariant-loop-one : goal.invariant-loop-one
invariant-loop-one l = l.text.items ≡ text_of (flat_map fault_lines (take l.one-index l.found))
