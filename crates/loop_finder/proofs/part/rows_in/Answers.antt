use Rattle.std.proofs.Common.{arith}
use Rattle.std.proofs.lemmas.Grind.{common_steps}
use Rattle.std.proofs.lemmas.List.{get_or_default}
use Rattle.loop_finder.proofs.PieceLaws.{AreRowsIn-more}
use Rattle.loop_finder.proofs.part.rows_in.Goals as goal

pub loop-router-preserved : goal.loop-router-preserved
loop-router-preserved c = grind (arith, common_steps, AreRowsIn-more, get_or_default)
