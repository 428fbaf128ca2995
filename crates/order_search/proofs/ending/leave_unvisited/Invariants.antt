use Rattle.std.proofs.Common.{◌≡◌, ◌++◌, length, replicate}
use Rattle.order_search.specs.declared.tree.Node.TheVariants.{Unvisited}
use Rattle.order_search.proofs.ending.leave_unvisited.Given as goal

abbrev pub invariant-loop-child : goal.invariant-loop-child
invariant-loop-child l = l.tree ++ replicate (length l.waiting) Unvisited ≡ l.initial.tree ++ replicate (length l.initial.waiting) Unvisited

abbrev pub decreases-loop-child : goal.decreases-loop-child
decreases-loop-child l = length l.waiting
