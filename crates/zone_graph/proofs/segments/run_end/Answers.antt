use Rattle.std.proofs.lemmas.Grind.{common_steps}
use Rattle.std.proofs.Common.{arith}
use Rattle.zone_graph.proofs.RunFacts.{one_stands, stands_at}
use Rattle.zone_graph.proofs.segments.run_end.Goals as goal

pub returns-after-loop-end : goal.returns-after-loop-end
returns-after-loop-end c = grind (arith, common_steps)

pub returns-else-begin_alike : goal.returns-else-begin_alike
returns-else-begin_alike c = grind (arith, common_steps, one_stands, stands_at)
