use Rattle.std.proofs.lemmas.Grind.{common_steps}
use Rattle.std.proofs.Common.{arith}
use Rattle.ospf_routes.proofs.HeardFacts.{lists_with, offer_lists_more}
use Rattle.ospf_routes.proofs.summaries.Summaries.keep.Goals as goal

pub returns : goal.returns
returns c = grind (arith, common_steps, lists_with, offer_lists_more)
