use Rattle.std.proofs.lemmas.Grind.{common_steps}
use Rattle.std.proofs.Common.{arith}
use Rattle.std.proofs.lemmas.Bool.{cases_lt}
use Rattle.net_model.proofs.Adjacency.{HasConfiguration-unique}
use Rattle.zone_graph.proofs.AttachmentFacts.{joins_itself}
use Rattle.zone_graph.proofs.attachments.group_of.Goals as goal

pub loop-other-preserved : goal.loop-other-preserved
loop-other-preserved c w one own below one_is own_is join = grind (arith, common_steps, HasConfiguration-unique, cases_lt)

pub returns-then-may_join : goal.returns-then-may_join
returns-then-may_join c = grind (arith, common_steps)

pub returns : goal.returns
returns c = grind (arith, common_steps, joins_itself)
