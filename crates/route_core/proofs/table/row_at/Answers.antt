use Rattle.std.proofs.Common.{arith}
use Rattle.std.proofs.lemmas.Grind.{common_steps}
use Rattle.route_core.proofs.RowLaws.{row_stands}
use Rattle.route_core.proofs.table.row_at.Goals as goal

pub returns-then-before-i : goal.returns-then-before-i
returns-then-before-i c = grind (arith, common_steps, row_stands)
