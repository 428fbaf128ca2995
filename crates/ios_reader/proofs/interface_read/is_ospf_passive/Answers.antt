use Rattle.std.proofs.Common.{arith}
use Rattle.std.proofs.lemmas.Grind.{common_steps}
use Rattle.ios_reader.proofs.interface_read.is_ospf_passive.Goals as goal

pub returns : goal.returns
returns c = grind (arith, common_steps)
