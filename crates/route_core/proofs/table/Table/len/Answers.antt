use Rattle.route_core.proofs.RowLaws.{table_rows}
use Rattle.route_core.proofs.table.Table.len.Goals as goal

pub returns-clause-distinct : goal.returns-clause-distinct
returns-clause-distinct c = (table_rows c.args.self.now c.parts.ensures.table).distinct
