use Rattle.std.proofs.lemmas.Grind.{common_steps}
use Rattle.std.proofs.Common.{arith}
use Rattle.zone_graph.proofs.RunFacts.{stands_at}
use Rattle.zone_graph.proofs.segments.is_first.Goals as goal

pub returns-then-are_of_one_segment : goal.returns-then-are_of_one_segment
returns-then-are_of_one_segment c = grind (arith, common_steps, stands_at)
