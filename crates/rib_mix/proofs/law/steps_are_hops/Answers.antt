use Rattle.rib_mix.proofs.NextLaws as laws
use Rattle.rib_mix.proofs.law.steps_are_hops.Goals as goal

pub returns : goal.returns
returns g c u a h phase next is must = laws.steps_to_hops g.T.AnyMigration.migration u phase a next h is must
