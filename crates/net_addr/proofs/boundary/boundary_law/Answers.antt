use Rattle.net_addr.proofs.BoundaryFacts.{boundaries_tell}
use Rattle.net_addr.proofs.boundary.boundary_law.Goals as goal

pub returns : goal.returns
returns c = boundaries_tell
