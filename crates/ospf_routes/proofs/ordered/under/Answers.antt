use Rattle.std.proofs.lemmas.Grind.{common_steps}
use Rattle.std.proofs.Common.{arith}
use Rattle.net_addr.proofs.Blocks.{ContainsAddress-bounds}
use Rattle.net_addr.proofs.BoundaryFacts.{last_address-after}
use Rattle.ospf_routes.proofs.ordered.under.Goals as goal

pub returns-clause-every : goal.returns-clause-every
returns-clause-every g c x has covers = grind (arith, common_steps, ContainsAddress-bounds, last_address-after)
