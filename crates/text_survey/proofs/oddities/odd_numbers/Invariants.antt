use Rattle.std.proofs.Common.{◌≡◌, take}
use Rattle.text_survey.specs.Oddities.{odd_numbers}
use Rattle.text_survey.proofs.oddities.odd_numbers.Given as goal

abbrev pub invariant-loop-line : goal.invariant-loop-line
invariant-loop-line l = l.numbers.items ≡ odd_numbers (take l.line-index l.lines)
