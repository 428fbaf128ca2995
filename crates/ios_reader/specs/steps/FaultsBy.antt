-- The faults of a configuration, by what its sections say.
use Rattle.std.specs.Prelude.{ℕ, List, ◌++◌, flat_map, is_none}
use Rattle.ios_lines.specs.FaultOrder.{faults_if}
use Rattle.ios_lines.specs.declared.fault.Fault.{Fault}
use Rattle.ios_lines.specs.declared.kind.ReadKind.TheVariants.{NoHostname}
use Rattle.ios_sections.specs.ProcessFaults.{ospf_statement_faults, isis_statement_faults, second_titles, lacking}
use Rattle.ios_sections.specs.Statements.{Statements}
use Rattle.ios_reader.specs.Faults.{interface_faults}
use Rattle.ios_reader.specs.Routers.{router_with}

-- the faults of the OSPF process, and of the first lines
abbrev pub ospf_faults_by : Statements → List Fault
ospf_faults_by s = s.head_faults ++ s.process_faults ++ flat_map ospf_statement_faults s.ospf

-- the faults of the IS-IS process
abbrev pub isis_faults_by : Statements → List Fault
isis_faults_by s = s.tag_faults ++ flat_map isis_statement_faults s.isis ++ second_titles s.isis ++ lacking s.isis_line s.isis

-- the faults of the interfaces
abbrev pub interfaces_faults_by : Statements → List Fault
interfaces_faults_by s = flat_map (interface_faults (router_with s.process s.ospf s.isis) s.tag) s.interfaces

-- the faults of a configuration whose `end` line has this number
abbrev pub faults_by : Statements → ℕ → List Fault
faults_by s ends = ospf_faults_by s ++ isis_faults_by s ++ interfaces_faults_by s ++ faults_if (is_none s.name) ends NoHostname
