use Rattle.std.proofs.lemmas.Grind.{common_steps}
use Rattle.std.proofs.Common.{arith}
use Rattle.net_addr.proofs.BoundaryFacts.{last_address-below}
use Rattle.net_addr.proofs.prefix.Prefix.last.Goals as goal

pub overflow_cast-result : goal.overflow_cast-result
overflow_cast-result c = grind (arith, common_steps, last_address-below)
