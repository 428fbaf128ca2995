use Rattle.std.proofs.lemmas.Grind.{common_steps}
use Rattle.std.proofs.Common.{arith}
use Rattle.walk_core.proofs.ListParts.{lists_more}
use Rattle.walk_core.proofs.long_lists.LongLists.keep.Goals as goal

pub returns-clause-kept : goal.returns-clause-kept
returns-clause-kept c = grind (arith, common_steps, lists_more)
