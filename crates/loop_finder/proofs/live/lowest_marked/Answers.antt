use Rattle.std.proofs.lemmas.Grind.{common_steps}
use Rattle.std.proofs.Common.{arith}
use Rattle.std.proofs.lemmas.List.{take_more}
use Rattle.loop_finder.proofs.LowestSteps.{lowest_more}
use Rattle.loop_finder.proofs.live.lowest_marked.Goals as goal

pub loop-router-preserved : goal.loop-router-preserved
loop-router-preserved c = grind (arith, common_steps, lowest_more, take_more)
