use Rattle.ios_reader.proofs.FaultyLineFacts.{first_refused}
use Rattle.ios_reader.proofs.laws.faulty_lines_law.Goals as goal

pub returns : goal.returns
returns c = first_refused
