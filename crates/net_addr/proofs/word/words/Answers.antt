use Rattle.std.proofs.Common.{arith}
use Rattle.std.proofs.lemmas.Grind.{common_steps}
use Rattle.net_addr.proofs.WordFacts.{words_more, words_end, word_spans-inside, word_spans-texts}
use Rattle.net_addr.proofs.word.words.Goals as goal

pub loop-start-preserved : goal.loop-start-preserved
loop-start-preserved c = grind (arith, common_steps, words_more)

pub returns-clause-inside : goal.returns-clause-inside
returns-clause-inside c = grind (arith, common_steps, word_spans-inside, words_end)

pub returns-clause-texts : goal.returns-clause-texts
returns-clause-texts c = grind (arith, common_steps, word_spans-texts, words_end)
