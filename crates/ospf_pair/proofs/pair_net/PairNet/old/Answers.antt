use Rattle.std.proofs.Common.{subst}
use Rattle.ospf_pair.specs.PairRefusals.{MakePair}
use Rattle.ospf_pair.proofs.pair_net.PairNet.old.Goals as goal

pub returns-clause-pair : goal.returns-clause-pair
returns-clause-pair c = subst MakePair c.self.view_is c.self.invariant
