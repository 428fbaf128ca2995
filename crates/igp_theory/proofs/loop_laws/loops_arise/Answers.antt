use Rattle.std.proofs.Common.{arith}
use Rattle.std.proofs.lemmas.Grind.{common_steps}
use Rattle.igp_theory.proofs.LoopLaws.{loop_arises_by_tags, arising_is_unsound}
use Rattle.igp_theory.proofs.loop_laws.loops_arise.Goals as goal

pub returns : goal.returns
returns g c = grind (arith, common_steps, arising_is_unsound, loop_arises_by_tags)
