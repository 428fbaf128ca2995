use Rattle.std.proofs.lemmas.Grind.{common_steps}
use Rattle.std.proofs.Common.{arith}
use Rattle.refutation_check.proofs.ChildPlaces.{in_row, next_row, no_more, some_left}
use Rattle.refutation_check.proofs.cursor.Cursor.next.Goals as goal

pub returns-then-new-len-clause-next : goal.returns-then-new-len-clause-next
returns-then-new-len-clause-next c = grind (arith, common_steps, in_row)

pub returns-then-old-len-clause-next : goal.returns-then-old-len-clause-next
returns-then-old-len-clause-next c = grind (arith, common_steps, next_row)

pub returns-else-old-len-clause-next : goal.returns-else-old-len-clause-next
returns-else-old-len-clause-next c = grind (arith, common_steps, no_more)

pub returns-then-new-len-clause-some : goal.returns-then-new-len-clause-some
returns-then-new-len-clause-some c = grind (arith, common_steps, some_left)

pub returns-then-old-len-clause-some : goal.returns-then-old-len-clause-some
returns-then-old-len-clause-some c = grind (arith, common_steps, some_left)

pub returns-else-old-len-clause-some : goal.returns-else-old-len-clause-some
returns-else-old-len-clause-some c = grind (arith, common_steps, some_left)
