use Rattle.std.proofs.Common.{◌≡◌, ◌++◌, take}
use Rattle.printed_lines.specs.Words.{spaced}
use Rattle.net_model.specs.RouterNames.{names_of}
use Rattle.migration_report.specs.Texts.{ring_words}
use Rattle.migration_report.proofs.report.ring_words.Given as goal

abbrev pub invariant-loop-turn : goal.invariant-loop-turn
invariant-loop-turn l = l.line ≡ l.initial.line ++ spaced (ring_words (names_of l.net) (take l.turn-index l.ring))
