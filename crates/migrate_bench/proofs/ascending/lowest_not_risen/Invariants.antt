use Rattle.std.proofs.Common.{length}
use Rattle.migrate_bench.specs.Ascending.{IsScanned}
use Rattle.migrate_bench.proofs.ascending.lowest_not_risen.Given as goal

abbrev pub invariant-loop-at : goal.invariant-loop-at
invariant-loop-at l = IsScanned l.ranks (length l.ranks) l.at l.scanned

abbrev pub decreases-loop-at : goal.decreases-loop-at
decreases-loop-at l = l.at
