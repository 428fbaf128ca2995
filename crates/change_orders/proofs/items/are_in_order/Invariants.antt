use Rattle.change_orders.proofs.FoundItems.{IsHighestOf}
use Rattle.change_orders.proofs.items.are_in_order.Given as goal

abbrev pub invariant-loop-item : goal.invariant-loop-item
invariant-loop-item l = IsHighestOf l.found l.item-index l.most
