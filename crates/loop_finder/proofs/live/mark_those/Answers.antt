use Rattle.std.proofs.lemmas.Grind.{common_steps}
use Rattle.std.proofs.Common.{arith}
use Rattle.std.proofs.lemmas.List.{get_or-set_same}
use Rattle.loop_finder.proofs.Peeling.{still_marked}
use Rattle.loop_finder.proofs.live.mark_those.Goals as goal

pub loop-router-preserved : goal.loop-router-preserved
loop-router-preserved c = grind (arith, common_steps, get_or-set_same, still_marked)
