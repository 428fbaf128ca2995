use Rattle.std.proofs.lemmas.Grind.{common_steps}
use Rattle.std.proofs.Common.{arith}
use Rattle.walk_core.proofs.MemberLists.{lists_renumbered, spans_renumbered}
use Rattle.walk_core.proofs.long_lists.LongLists.renumbered.Goals as goal

pub returns : goal.returns
returns c = grind (arith, common_steps, lists_renumbered, spans_renumbered)
