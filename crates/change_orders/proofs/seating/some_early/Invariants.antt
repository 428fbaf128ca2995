use Rattle.std.proofs.Common.{ℕ, ◌<◌, get_or}
use Rattle.change_orders.specs.steps.Found.{IsEarlyItem}
use Rattle.change_orders.proofs.seating.some_early.Given as goal

abbrev pub invariant-loop-item : goal.invariant-loop-item
invariant-loop-item l = (p : ℕ) → p < l.item-index → IsEarlyItem l.ranks l.wave (get_or l.items p 0) → ⊥
