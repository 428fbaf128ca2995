use Rattle.precedence_set.proofs.LayerFacts.{chain_unique}
use Rattle.precedence_set.proofs.laws.chains_are_pairs.Goals as goal

pub returns-clause-neighbors : goal.returns-clause-neighbors
returns-clause-neighbors c = λ pairs layers chain is k lt. (is.back k lt).holds.before

pub returns-clause-one : goal.returns-clause-one
returns-clause-one c = λ pairs layers chain other is too. chain_unique pairs layers chain other is too
