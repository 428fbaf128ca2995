-- The cursor goes on by one child: in its row, or to the next row.
use Rattle.std.proofs.lemmas.Grind.{common_steps}
use Rattle.std.proofs.Common.{arith}
use Rattle.order_search.proofs.CursorFacts.{children_next, row_ends, children_end}
use Rattle.order_search.proofs.siblings.Siblings.next.Goals as goal

pub returns-then-self-len-clause-none : goal.returns-then-self-len-clause-none
returns-then-self-len-clause-none c = grind (arith, common_steps, children_end)

pub returns-then-self-len-2-clause-some : goal.returns-then-self-len-2-clause-some
returns-then-self-len-2-clause-some c = grind (arith, common_steps, children_next, row_ends)

pub returns-else-self-len-2-clause-some : goal.returns-else-self-len-2-clause-some
returns-else-self-len-2-clause-some c = grind (arith, common_steps, children_next)
