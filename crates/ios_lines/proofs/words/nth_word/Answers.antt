use Rattle.std.proofs.Common.{arith}
use Rattle.std.proofs.lemmas.Grind.{common_steps}
use Rattle.ios_lines.proofs.WordCuts.{word_further}
use Rattle.ios_lines.proofs.words.nth_word.Goals as goal

pub loop-left-preserved : goal.loop-left-preserved
loop-left-preserved c = grind (arith, common_steps, word_further)
