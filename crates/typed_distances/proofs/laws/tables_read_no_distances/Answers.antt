use Rattle.typed_distances.proofs.SameBarDistances.{tables_alike}
use Rattle.typed_distances.proofs.laws.tables_read_no_distances.Goals as goal

pub returns : goal.returns
returns c = tables_alike
