use Rattle.std.proofs.lemmas.Grind.{common_steps}
use Rattle.std.proofs.Common.{arith}
use Rattle.loop_finder.proofs.Levels.{AreLevelled-more, marks_again}
use Rattle.loop_finder.proofs.OnFalse.{on_true}
use Rattle.loop_finder.proofs.PartRows.{steps_within}
use Rattle.loop_finder.proofs.level_marks.mark_level.Goals as goal

pub loop-router-preserved : goal.loop-router-preserved
loop-router-preserved c = grind (arith, common_steps, AreLevelled-more)

pub returns-clause-returns : goal.returns-clause-returns
returns-clause-returns c = grind (arith, common_steps, marks_again, on_true, steps_within)
