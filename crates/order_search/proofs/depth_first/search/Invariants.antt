use Rattle.std.proofs.Common.{◌-◌}
use Rattle.order_search.specs.Meanings.{SameMeaning}
use Rattle.order_search.specs.steps.Steps.{IsSearching}
use Rattle.order_search.proofs.depth_first.search.Given as goal

abbrev pub invariant-loop-stand : goal.invariant-loop-stand
invariant-loop-stand g l = record {
  searching : IsSearching (g.Q.Oracle.meaning l.initial.oracle) l.budget l.stand;
  same : SameMeaning (g.Q.Oracle.meaning l.initial.oracle) (g.Q.Oracle.meaning l.oracle);
}

abbrev pub decreases-loop-stand : goal.decreases-loop-stand
decreases-loop-stand g l = l.budget - l.stand.branches
