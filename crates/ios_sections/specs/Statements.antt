-- What the sections of a configuration say: its interfaces, and the lines of its two processes.
use Rattle.std.specs.Prelude.{ℕ, List, Option, filter_map}
use Rattle.ios_lines.specs.Words.{Word}
use Rattle.ios_lines.specs.Lookups.{last_of}
use Rattle.ios_sections.specs.Processes.{as_hostname, as_isis, as_fault, interfaces_in, process_of, first_tag, ospf_lines, isis_lines}
use Rattle.ios_sections.specs.ProcessFaults.{second_processes, tag_faults, first_isis_line}
use Rattle.ios_lines.specs.declared.fault.Fault.{Fault}
use Rattle.ios_lines.specs.declared.ospf_line.OspfStatement.{OspfStatement}
use Rattle.ios_lines.specs.declared.isis_line.IsisStatement.{IsisStatement}
use Rattle.ios_sections.specs.declared.section.InterfaceSection.{InterfaceSection}
use Rattle.ios_sections.specs.declared.section.Section.{Section}

-- what sections say, each process with its lines; and the faults that need the sections apart
pub record Statements : Type 0 where
  pub name : Option Word
  pub interfaces : List InterfaceSection
  pub process : Option ℕ
  pub ospf : List OspfStatement
  pub tag : Option Word
  pub isis_line : Option ℕ
  pub isis : List IsisStatement
  pub head_faults : List Fault
  pub process_faults : List Fault
  pub tag_faults : List Fault

-- what sections say
abbrev pub statements_of : List Section → Statements
statements_of sections = record {
  name = last_of as_hostname sections;
  interfaces = interfaces_in sections;
  process = process_of sections;
  ospf = ospf_lines sections;
  tag = first_tag (filter_map as_isis sections);
  isis_line = first_isis_line (filter_map as_isis sections);
  isis = isis_lines sections;
  head_faults = filter_map as_fault sections;
  process_faults = second_processes sections;
  tag_faults = tag_faults (filter_map as_isis sections);
}
