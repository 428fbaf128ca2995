use Rattle.std.proofs.Common.{◌≡◌, ◌++◌, take, map}
use Rattle.net_model.specs.RouterNames.{names_of}
use Rattle.printed_lines.specs.Words.{spaced}
use Rattle.refutation_check.specs.TreeTexts.{turn_word}
use Rattle.refutation_check.proofs.text.with_turns.Given as goal

abbrev pub invariant-loop-turn : goal.invariant-loop-turn
invariant-loop-turn l = l.line ≡ l.initial.line ++ spaced (map (turn_word l.items (names_of l.net)) (take l.turn-index l.turns))
