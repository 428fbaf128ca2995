use Rattle.network_survey.proofs.NeighborFacts.{neighbor_law_holds}
use Rattle.network_survey.proofs.laws.neighbor_law.Goals as goal

pub returns : goal.returns
returns c = neighbor_law_holds
