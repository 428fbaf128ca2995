use Rattle.std.proofs.Common.{◌≡◌, ℕ, length, slice_get, Some}
use Rattle.rib_mix.specs.Sites.{table_of}
use Rattle.rib_mix.specs.steps.Sites.{IsTableOver}
use Rattle.rib_mix.specs.declared.both_tables.BothTables.{BothTables}
use Rattle.rib_mix.proofs.both_tables.tables_of.Given as goal

abbrev pub invariant-loop-router : goal.invariant-loop-router
invariant-loop-router g l = record {
  count : length l.tables.items ≡ l.router;
  olds : (u : ℕ) (both : BothTables) → slice_get l.tables.items u ≡ Some both → table_of both.old ≡ g.O.RouteSource.table l.old u;
  news : (u : ℕ) (both : BothTables) → slice_get l.tables.items u ≡ Some both → table_of both.new ≡ g.N.RouteSource.table l.new u;
  old_parts : (u : ℕ) (both : BothTables) → slice_get l.tables.items u ≡ Some both → IsTableOver (g.O.RouteSource.prefixes l.old) both.old;
  new_parts : (u : ℕ) (both : BothTables) → slice_get l.tables.items u ≡ Some both → IsTableOver (g.N.RouteSource.prefixes l.new) both.new;
}
