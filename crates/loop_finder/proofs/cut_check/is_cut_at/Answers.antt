use Rattle.std.proofs.lemmas.Grind.{common_steps}
use Rattle.std.proofs.Common.{arith}
use Rattle.std.proofs.lemmas.List.{get_or_default}
use Rattle.loop_finder.proofs.PieceLaws.{cut_by}
use Rattle.loop_finder.proofs.cut_check.is_cut_at.Goals as goal

pub returns-then-is_place : goal.returns-then-is_place
returns-then-is_place c = grind (arith, common_steps, cut_by, get_or_default)
