use Rattle.std.proofs.Common.{arith}
use Rattle.std.proofs.lemmas.Grind.{common_steps}
use Rattle.std.proofs.lemmas.List.{map-set}
use Rattle.loop_finder.proofs.end_lists.EndLists.put.Goals as goal

pub returns-clause-olds : goal.returns-clause-olds
returns-clause-olds c = grind (arith, common_steps, map-set)

pub returns-clause-news : goal.returns-clause-news
returns-clause-news c = grind (arith, common_steps, map-set)
