use Rattle.std.proofs.lemmas.Grind.{common_steps}
use Rattle.std.proofs.Common.{arith}
use Rattle.std.proofs.lemmas.List.{get_or_default}
use Rattle.loop_finder.proofs.waves_fault.all_move.Goals as goal

pub loop-place-preserved : goal.loop-place-preserved
loop-place-preserved c k d below = grind (arith, common_steps, get_or_default)
