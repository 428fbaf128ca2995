use Rattle.std.proofs.lemmas.Grind.{common_steps}
use Rattle.std.proofs.Common.{arith}
use Rattle.zone_graph.proofs.known_walks.KnownZone.without.Goals as goal

pub without-requires-clause-more : goal.without-requires-clause-more
without-requires-clause-more c = grind (arith, common_steps)
