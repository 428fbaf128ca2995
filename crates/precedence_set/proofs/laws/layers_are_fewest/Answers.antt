use Rattle.precedence_set.proofs.LayerFacts.{layers_rank, layers_keep, layers_earliest, layers_fewest, layers_unique}
use Rattle.precedence_set.proofs.laws.layers_are_fewest.Goals as goal

pub returns-clause-ranking : goal.returns-clause-ranking
returns-clause-ranking c = λ n pairs layers below are. layers_rank n pairs layers below are

pub returns-clause-keeps : goal.returns-clause-keeps
returns-clause-keeps c = λ n pairs layers below are. layers_keep n pairs layers below are

pub returns-clause-earliest : goal.returns-clause-earliest
returns-clause-earliest c = λ n pairs layers ranks below are keeps. layers_earliest n pairs layers ranks below are keeps

pub returns-clause-fewest : goal.returns-clause-fewest
returns-clause-fewest c = λ n pairs layers ranks below are long keeps. layers_fewest n pairs layers ranks below are long keeps

pub returns-clause-one : goal.returns-clause-one
returns-clause-one c = λ n pairs layers others below are too. layers_unique n pairs layers others below are too
