use Rattle.std.proofs.Common.{arith}
use Rattle.std.proofs.lemmas.Grind.{common_steps}
use Rattle.ios_reader.proofs.passive.Passives.is_isis_passive.Goals as goal

pub returns : goal.returns
returns c router of_router = grind (arith, common_steps)
