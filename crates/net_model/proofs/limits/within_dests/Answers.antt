use Rattle.std.proofs.Common.{arith}
use Rattle.std.proofs.lemmas.Grind.{common_steps}
use Rattle.net_model.proofs.Dests.{IsWithinLimits-few}
use Rattle.net_model.proofs.limits.within_dests.Goals as goal

pub returns-then-len-le-MOST_DESTS-clause-ok : goal.returns-then-len-le-MOST_DESTS-clause-ok
returns-then-len-le-MOST_DESTS-clause-ok c = grind (arith, common_steps, IsWithinLimits-few)
