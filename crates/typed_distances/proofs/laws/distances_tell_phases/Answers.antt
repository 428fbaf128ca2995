use Rattle.typed_distances.proofs.PhasesByDistance.{distances_tell}
use Rattle.typed_distances.proofs.laws.distances_tell_phases.Goals as goal

pub returns : goal.returns
returns c = distances_tell
