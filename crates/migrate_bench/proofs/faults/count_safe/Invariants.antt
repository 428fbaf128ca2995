use Rattle.std.proofs.Common.{◌≡◌}
use Rattle.migrate_bench.proofs.faults.count_safe.Given as goal

abbrev pub invariant-loop-waves : goal.invariant-loop-waves
invariant-loop-waves g l = l.finder.mixture ≡ l.fn.finder.mixture
