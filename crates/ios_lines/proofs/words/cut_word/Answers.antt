use Rattle.std.proofs.Common.{arith}
use Rattle.std.proofs.lemmas.Grind.{common_steps}
use Rattle.ios_lines.proofs.WordCuts.{place, first_word_is, words_after}
use Rattle.ios_lines.proofs.words.cut_word.Goals as goal

pub returns-clause-word : goal.returns-clause-word
returns-clause-word c = grind (arith, common_steps, first_word_is, place)

pub returns-clause-behind : goal.returns-clause-behind
returns-clause-behind c = grind (arith, common_steps, place, words_after)
