use Rattle.std.proofs.Common.{◌≡◌, ℕ, Some, map, take}
use Rattle.change_orders.proofs.items.all_found.Given as goal

abbrev pub invariant-loop-item : goal.invariant-loop-item
invariant-loop-item l = take l.item-index l.found ≡ map (λ (i : ℕ). Some i) l.items.items
