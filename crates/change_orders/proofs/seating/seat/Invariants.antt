use Rattle.std.proofs.Common.{take}
use Rattle.change_orders.specs.steps.Found.{AreSeated}
use Rattle.change_orders.proofs.FoundItems.{seating}
use Rattle.change_orders.proofs.seating.seat.Given as goal

abbrev pub invariant-loop-item : goal.invariant-loop-item
invariant-loop-item l = AreSeated (seating (take l.item-index l.items) l.wave l.initial.ranks.items l.ranks.items)
