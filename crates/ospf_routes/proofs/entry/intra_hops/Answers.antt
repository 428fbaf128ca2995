use Rattle.std.proofs.Common.{arith}
use Rattle.std.proofs.lemmas.Grind.{common_steps}
use Rattle.std.proofs.lemmas.Result.{IfOk-weaker}
use Rattle.ospf_routes.proofs.RouteFacts.{intra_route_is}
use Rattle.ospf_routes.proofs.entry.intra_hops.Goals as goal

pub returns : goal.returns
returns c = grind (arith, common_steps, IfOk-weaker, intra_route_is)
