use Rattle.refutation_check.proofs.RestFacts.{rest_reads_back}
use Rattle.refutation_check.proofs.laws.rest_trees_read_back.Goals as goal

pub returns : goal.returns
returns g c = rest_reads_back g.T.AnyMigration.migration
