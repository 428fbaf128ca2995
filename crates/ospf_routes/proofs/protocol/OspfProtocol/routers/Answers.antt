use Rattle.std.proofs.Common.{arith}
use Rattle.std.proofs.lemmas.Grind.{common_steps}
use Rattle.ospf_routes.proofs.ProtocolFacts.{ospf_is_lawful}
use Rattle.ospf_routes.proofs.protocol.OspfProtocol.routers.Goals as goal

pub returns-clause-lawful : goal.returns-clause-lawful
returns-clause-lawful c = grind (arith, common_steps, ospf_is_lawful)
