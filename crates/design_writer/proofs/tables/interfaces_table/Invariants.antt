use Rattle.std.proofs.Common.{◌≡◌, drop}
use Rattle.toml.specs.Data.{no_members}
use Rattle.toml.specs.View.{table_view}
use Rattle.design_writer.specs.CostTables.{with_interfaces}
use Rattle.design_writer.proofs.tables.interfaces_table.Given as goal

abbrev pub invariant-loop-interface : goal.invariant-loop-interface
invariant-loop-interface l = with_interfaces (table_view l.table) (drop l.interface-index l.interfaces) ≡ with_interfaces no_members l.interfaces
