use Rattle.std.proofs.Common.{◌≡◌}
use Rattle.net_addr.specs.Blanks.{words_in}
use Rattle.ios_lines.specs.Words.{word_at}
use Rattle.ios_lines.proofs.words.nth_word.Given as goal

abbrev pub invariant-loop-left : goal.invariant-loop-left
invariant-loop-left l = word_at (words_in l.rest) l.left ≡ word_at (words_in l.bytes) l.k

abbrev pub decreases-loop-left : goal.decreases-loop-left
decreases-loop-left l = l.left
