use Rattle.prefix_atoms.proofs.ClassLaws as laws
use Rattle.prefix_atoms.proofs.law.one_class_acts_alike.Goals as goal

pub returns-clause-alike : goal.returns-clause-alike
returns-clause-alike g c classes k a b are in_a in_b = laws.one_class_acts_alike g.T.AnyMigration.migration classes k a b are in_a in_b

pub returns-clause-each : goal.returns-clause-each
returns-clause-each g c classes k j a are in_k in_j = laws.one_class_each classes k j a are.classing.samples in_k in_j
