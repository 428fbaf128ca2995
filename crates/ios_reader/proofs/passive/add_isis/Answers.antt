use Rattle.std.proofs.Common.{arith}
use Rattle.std.proofs.lemmas.Grind.{common_steps}
use Rattle.std.proofs.lemmas.Result.{on_ok_weaker}
use Rattle.ios_reader.proofs.PassiveFacts.{said_with}
use Rattle.ios_reader.proofs.passive.add_isis.Goals as goal

pub returns-in-Passive : goal.returns-in-Passive
returns-in-Passive c = grind (arith, common_steps, on_ok_weaker, said_with)
