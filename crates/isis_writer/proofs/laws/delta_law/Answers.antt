use Rattle.isis_writer.proofs.DeltaPieces.{delta_of_pieces}
use Rattle.isis_writer.proofs.laws.delta_law.Goals as goal

pub returns : goal.returns
returns c = delta_of_pieces
