use Rattle.std.proofs.lemmas.Grind.{common_steps}
use Rattle.std.proofs.Common.{arith}
use Rattle.loop_finder.proofs.WalkSteps.{turned_to}
use Rattle.loop_finder.proofs.ring.turn.Goals as goal

pub returns-clause-turned : goal.returns-clause-turned
returns-clause-turned c = grind (arith, common_steps, turned_to)
