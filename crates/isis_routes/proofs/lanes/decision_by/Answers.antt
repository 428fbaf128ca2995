use Rattle.std.proofs.Common.{arith}
use Rattle.std.proofs.lemmas.Grind.{common_steps}
use Rattle.isis_routes.proofs.LaneFacts.{only_one, only_two}
use Rattle.isis_routes.proofs.lanes.decision_by.Goals as goal

pub returns-in-len1 : goal.returns-in-len1
returns-in-len1 c = grind (arith, common_steps, only_one)

pub returns-in-len2 : goal.returns-in-len2
returns-in-len2 c = grind (arith, common_steps, only_two)
