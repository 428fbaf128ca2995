use Rattle.std.proofs.Common.{◌≡◌, ◌++◌, map, take}
use Rattle.std.specs.Prelude.{decimal}
use Rattle.printed_lines.specs.Words.{spaced}
use Rattle.survey_report.proofs.counted_texts.with_numbers.Given as goal

abbrev pub invariant-loop-number : goal.invariant-loop-number
invariant-loop-number l = l.line ≡ l.initial.line ++ spaced (map decimal (take l.number-index l.numbers))
