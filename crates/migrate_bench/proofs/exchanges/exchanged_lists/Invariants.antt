use Rattle.std.proofs.Common.{◌≡◌, ℕ, List, All, length}
use Rattle.migrate_bench.proofs.exchanges.exchanged_lists.Given as goal

abbrev pub invariant-loop : goal.invariant-loop
invariant-loop l = All (λ (waves : List ℕ). length waves ≡ length l.ranks) l.lists.items
