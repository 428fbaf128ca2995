use Rattle.std.proofs.Common.{arith}
use Rattle.std.proofs.lemmas.Grind.{common_steps}
use Rattle.zone_graph.proofs.known_walks.KnownWalks.known_over.Goals as goal

pub returns-then-is_over : goal.returns-then-is_over
returns-then-is_over c = grind (arith, common_steps)
