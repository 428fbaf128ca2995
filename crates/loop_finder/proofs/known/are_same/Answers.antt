use Rattle.std.proofs.lemmas.Grind.{common_steps}
use Rattle.std.proofs.Common.{arith}
use Rattle.std.proofs.lemmas.Bool.{cases_lt}
use Rattle.std.proofs.lemmas.List.{get_or_past}
use Rattle.loop_finder.proofs.OrderStates.{same_state}
use Rattle.loop_finder.proofs.known.are_same.Goals as goal

pub returns : goal.returns
returns c = grind (arith, common_steps, cases_lt, get_or_past, same_state)
