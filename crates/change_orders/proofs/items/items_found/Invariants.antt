use Rattle.std.proofs.Common.{map, take}
use Rattle.std.specs.List.{AllZip}
use Rattle.change_orders.specs.steps.Found.{IsItemFound}
use Rattle.change_orders.proofs.items.items_found.Given as goal

abbrev pub invariant-loop-word : goal.invariant-loop-word
invariant-loop-word l = AllZip (IsItemFound l.net) (map (λ word. word.now) (take l.word-index l.words)) l.found.items
