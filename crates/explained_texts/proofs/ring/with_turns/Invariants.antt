use Rattle.std.proofs.Common.{◌≡◌, ◌++◌, map, take}
use Rattle.net_model.specs.RouterNames.{names_of}
use Rattle.printed_lines.specs.Words.{spaced}
use Rattle.explained_texts.specs.RingWords.{tagged_word}
use Rattle.explained_texts.proofs.ring.with_turns.Given as goal

abbrev pub invariant-loop-turn : goal.invariant-loop-turn
invariant-loop-turn l = l.line ≡ l.initial.line ++ spaced (map (tagged_word (names_of l.net)) (take l.turn-index l.ring))
