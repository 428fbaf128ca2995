use Rattle.std.proofs.Common.{arith}
use Rattle.std.proofs.lemmas.Grind.{common_steps}
use Rattle.std.proofs.lemmas.Result.{IfOk-weaker}
use Rattle.ospf_routes.proofs.EntryFacts.{decided_found}
use Rattle.ospf_routes.proofs.entry.route_by.Goals as goal

pub returns : goal.returns
returns c = grind (arith, common_steps, IfOk-weaker, decided_found)
