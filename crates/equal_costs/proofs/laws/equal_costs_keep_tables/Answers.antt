use Rattle.equal_costs.proofs.SameTables.{same_tables}
use Rattle.equal_costs.proofs.laws.equal_costs_keep_tables.Goals as goal

pub returns : goal.returns
returns c = same_tables
