use Rattle.std.proofs.Common.{arith}
use Rattle.std.proofs.lemmas.Grind.{common_steps}
use Rattle.ospf_routes.proofs.AreaFacts.{listened_place_is}
use Rattle.ospf_routes.proofs.domain.Domain.listened_place.Goals as goal

pub returns-in-Some : goal.returns-in-Some
returns-in-Some c = grind (arith, common_steps, listened_place_is)
