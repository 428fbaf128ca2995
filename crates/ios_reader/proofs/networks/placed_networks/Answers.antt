use Rattle.std.proofs.Common.{arith}
use Rattle.std.proofs.lemmas.Grind.{common_steps}
use Rattle.ios_reader.proofs.NetworkFacts.{placed_more}
use Rattle.ios_reader.proofs.networks.placed_networks.Goals as goal

pub loop-place-preserved : goal.loop-place-preserved
loop-place-preserved c = grind (arith, common_steps, placed_more)
