use Rattle.std.proofs.lemmas.Grind.{common_steps}
use Rattle.std.proofs.Common.{arith}
use Rattle.std.proofs.Math.ListN.{length-set}
use Rattle.loop_finder.proofs.WavePhases.{times_of_ranks, ranked_more}
use Rattle.loop_finder.proofs.times.rank_waves.Goals as goal

pub loop-router-preserved : goal.loop-router-preserved
loop-router-preserved c = grind (arith, common_steps, length-set, ranked_more)

pub returns-clause-times : goal.returns-clause-times
returns-clause-times c = grind (arith, common_steps, times_of_ranks)
