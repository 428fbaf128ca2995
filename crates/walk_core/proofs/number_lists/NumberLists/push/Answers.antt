use Rattle.std.proofs.Common.{arith}
use Rattle.std.proofs.lemmas.Grind.{common_steps}
use Rattle.walk_core.proofs.ListParts.{all_more}
use Rattle.walk_core.proofs.number_lists.NumberLists.push.Goals as goal

pub returns : goal.returns
returns c = grind (arith, common_steps, all_more)
