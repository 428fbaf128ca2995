use Rattle.std.proofs.Common.{arith}
use Rattle.std.proofs.lemmas.Grind.{common_steps}
use Rattle.loop_finder.proofs.RowLaws.{placed_more}
use Rattle.loop_finder.proofs.rows.Rows.push.Goals as goal

pub returns : goal.returns
returns c = grind (arith, common_steps, placed_more)
