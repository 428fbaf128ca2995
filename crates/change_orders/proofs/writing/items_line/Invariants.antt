use Rattle.std.proofs.Common.{◌≡◌, ◌∷◌, map, take}
use Rattle.net_model.specs.RouterNames.{names_of}
use Rattle.printed_lines.specs.Words.{joined}
use Rattle.change_orders.specs.TwoTexts.{item_word}
use Rattle.change_orders.proofs.writing.items_line.Given as goal

abbrev pub invariant-loop-item : goal.invariant-loop-item
invariant-loop-item l = l.line ≡ joined (l.word ∷ map (item_word (names_of l.net)) (take l.item-index l.items))
