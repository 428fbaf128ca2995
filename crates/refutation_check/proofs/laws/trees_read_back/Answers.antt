use Rattle.refutation_check.proofs.PrintedTrees.{trees_read_back}
use Rattle.refutation_check.proofs.laws.trees_read_back.Goals as goal

pub returns : goal.returns
returns c = trees_read_back
