use Rattle.std.proofs.Common.{arith}
use Rattle.std.proofs.lemmas.Grind.{common_steps}
use Rattle.isis_routes.proofs.ProtocolFacts.{isis_is_lawful}
use Rattle.isis_routes.proofs.protocol.IsisProtocol.routers.Goals as goal

pub returns-clause-lawful : goal.returns-clause-lawful
returns-clause-lawful c = grind (arith, common_steps, isis_is_lawful)
