-- What the lines of an interface say in the end: of each form the last one.
use Rattle.std.specs.Prelude.{ℕ, true, List, Some, None, fold}
use Rattle.ios_lines.specs.declared.interface_line.InterfaceLine.{InterfaceLine}
use Rattle.ios_lines.specs.declared.interface_line.InterfaceLine.TheVariants.{Address, NoAddress, Shutdown, Bandwidth, Cost, Area, PointToPoint, Isis}
use Rattle.ios_lines.specs.declared.interface_line.InterfaceLine.TheVariants.{Circuit, Metric, Metric1, Metric2}
use Rattle.ios_lines.specs.declared.interface_line.InterfaceStatement.{InterfaceStatement}
use Rattle.ios_reader.specs.declared.facts.InterfaceFacts.{InterfaceFacts}

-- nothing is said
abbrev pub no_facts : InterfaceFacts
no_facts = record {
  address = None;
  shut = None;
  bandwidth = None;
  cost = None;
  area = None;
  point_to_point = None;
  isis = None;
  circuit = None;
  metric = None;
  metric1 = None;
  metric2 = None;
}

-- what is said, with a line more that has this number: it holds in the place of what an earlier one of its form said
abbrev pub noted_at : ℕ → InterfaceFacts → InterfaceLine → InterfaceFacts
noted_at line facts (Address address) = record facts { address = Some (Some (record { line = line; address = address })) }
noted_at line facts NoAddress = record facts { address = Some None }
noted_at line facts (Shutdown shut) = record facts { shut = Some shut }
noted_at line facts (Bandwidth bandwidth) = record facts { bandwidth = Some bandwidth }
noted_at line facts (Cost cost) = record facts { cost = Some cost }
noted_at line facts (Area area) = record facts { area = Some area }
noted_at line facts (PointToPoint point_to_point) = record facts { point_to_point = Some point_to_point }
noted_at line facts (Isis tag) = record facts { isis = Some true }
noted_at line facts (Circuit circuit) = record facts { circuit = Some circuit }
noted_at line facts (Metric metric) = record facts { metric = Some metric }
noted_at line facts (Metric1 metric) = record facts { metric1 = Some metric }
noted_at line facts (Metric2 metric) = record facts { metric2 = Some metric }
noted_at line facts _ = facts

-- with a line more
abbrev pub noted : InterfaceFacts → InterfaceStatement → InterfaceFacts
noted facts s = noted_at s.line facts s.says

-- what the lines of an interface say, taken in one after the other
abbrev pub facts_of : List InterfaceStatement → InterfaceFacts
facts_of lines = fold noted no_facts lines
