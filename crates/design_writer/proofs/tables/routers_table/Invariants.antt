use Rattle.std.proofs.Common.{◌≡◌, drop}
use Rattle.toml.specs.Data.{no_members}
use Rattle.toml.specs.View.{table_view}
use Rattle.design_writer.specs.CostTables.{with_routers}
use Rattle.design_writer.proofs.tables.routers_table.Given as goal

abbrev pub invariant-loop-number : goal.invariant-loop-number
invariant-loop-number l = with_routers (table_view l.table) (drop l.number l.net) ≡ with_routers no_members l.net
