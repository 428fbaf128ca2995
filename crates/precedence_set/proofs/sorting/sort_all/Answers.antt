use Rattle.std.proofs.lemmas.Grind.{common_steps}
use Rattle.std.proofs.Common.{arith}
use Rattle.std.proofs.lemmas.Bool.{cases_lt}
use Rattle.precedence_set.proofs.SortFacts.{AreLeftCounts-same}
use Rattle.precedence_set.proofs.ListFacts.{IsListing-free, all_listed, IsTopological-whole, IsGone-none}
use Rattle.precedence_set.proofs.sorting.sort_all.Goals as goal

pub loop-k-init : goal.loop-k-init
loop-k-init c = grind (arith, common_steps, AreLeftCounts-same, IsGone-none, IsListing-free)

pub list_after-count-requires-clause-listed : goal.list_after-count-requires-clause-listed
list_after-count-requires-clause-listed c = grind (arith, common_steps, all_listed, cases_lt)

pub returns : goal.returns
returns c = grind (arith, common_steps, IsTopological-whole)
