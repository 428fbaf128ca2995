use Rattle.std.proofs.Common.{◌≤◌, length}
use Rattle.precedence_set.specs.steps.Sorting.{IsListing, AreLeftCounts, IsGone, queue}
use Rattle.precedence_set.proofs.sorting.sort_all.Given as goal

abbrev pub invariant-loop-k : goal.invariant-loop-k
invariant-loop-k l = record {
  placed : l.k ≤ l.count;
  within : l.count ≤ length l.order;
  listing : IsListing (length l.order) l.graph.pairs.now (queue l.counts l.order l.count);
  counted : AreLeftCounts l.graph.pairs.now (IsGone l.graph.pairs.now l.order l.k) l.counts;
}
