use Rattle.std.proofs.Common.{◌≡◌, ◌++◌, take, map}
use Rattle.net_model.specs.RouterNames.{names_of}
use Rattle.printed_lines.specs.Words.{spaced}
use Rattle.refutation_check.specs.TreeTexts.{number_word}
use Rattle.refutation_check.proofs.text.with_numbers.Given as goal

abbrev pub invariant-loop-number : goal.invariant-loop-number
invariant-loop-number l = l.line ≡ l.initial.line ++ spaced (map (number_word l.items (names_of l.net)) (take l.number-index l.numbers))
