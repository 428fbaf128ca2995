use Rattle.std.proofs.Common.{arith}
use Rattle.std.proofs.lemmas.Grind.{common_steps}
use Rattle.ios_lines.proofs.WordCuts.{word_behind, one_more}
use Rattle.ios_lines.proofs.words.Words.of.Goals as goal

pub invariant_of-result : goal.invariant_of-result
invariant_of-result c = grind (arith, common_steps, one_more, word_behind)
