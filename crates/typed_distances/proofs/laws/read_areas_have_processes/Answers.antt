use Rattle.typed_distances.proofs.ReadProcesses.{read_areas}
use Rattle.typed_distances.proofs.laws.read_areas_have_processes.Goals as goal

pub returns : goal.returns
returns c = read_areas
