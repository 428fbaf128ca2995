use Rattle.ios_reader.proofs.AreaFacts.{ranges_law, stub_lines_law}
use Rattle.ios_reader.proofs.laws.area_laws.Goals as goal

pub returns : goal.returns
returns c = record { ranges = ranges_law; stubs = stub_lines_law }
