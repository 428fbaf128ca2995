use Rattle.std.proofs.Common.{ℕ, ◌<◌}
use Rattle.order_core.specs.Rankings.{rank_of}
use Rattle.migrate_bench.proofs.ascending.first_no_higher.Given as goal

abbrev pub invariant-loop-higher : goal.invariant-loop-higher
invariant-loop-higher l = (b : ℕ) → l.lower < b → b < l.higher → rank_of l.ranks l.lower < rank_of l.ranks b
