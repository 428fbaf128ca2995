-- How the reader gathers what sections say, one section after the other.
use Rattle.std.specs.Prelude.{List, [], ◌∷◌, ◌++◌, Option, Some, None, filter_map, bytes_eq, if◌then◌else◌}
use Rattle.ios_lines.specs.Words.{Word}
use Rattle.ios_lines.specs.Lookups.{last_of}
use Rattle.ios_sections.specs.Processes.{as_hostname, as_ospf, as_isis, as_fault, interfaces_in}
use Rattle.ios_lines.specs.declared.fault.Fault.{Fault}
use Rattle.ios_sections.specs.declared.section.InterfaceSection.{InterfaceSection}
use Rattle.ios_sections.specs.declared.section.OspfSection.{OspfSection}
use Rattle.ios_sections.specs.declared.section.IsisSection.{IsisSection}
use Rattle.ios_sections.specs.declared.section.Section.{Section}
use Rattle.ios_sections.specs.declared.section.Section.TheVariants.{Hostname, Interface, Ospf, Isis, Faulty, Other}

-- what sections say, gathered
pub record Gathering : Type 0 where
  pub name : Option Word
  pub interfaces : List InterfaceSection
  pub ospf : List OspfSection
  pub isis : List IsisSection
  pub faults : List Fault

-- sections, looked up by what they say
abbrev pub gathering_of : List Section → Gathering
gathering_of sections = record {
  name = last_of as_hostname sections;
  interfaces = interfaces_in sections;
  ospf = filter_map as_ospf sections;
  isis = filter_map as_isis sections;
  faults = filter_map as_fault sections;
}

-- one more section of an interface: its lines go after those of its name
abbrev pub with_interface : List InterfaceSection → InterfaceSection → List InterfaceSection
with_interface [] section = section ∷ []
with_interface (s ∷ ss) section =
    if bytes_eq section.name s.name
    then record { line = s.line; name = s.name; lines = s.lines ++ section.lines } ∷ ss
    else s ∷ with_interface ss section

-- one more section
abbrev pub with_section : Gathering → Section → Gathering
with_section g (Hostname name) = record g { name = Some name }
with_section g (Interface section) = record g { interfaces = with_interface g.interfaces section }
with_section g (Ospf section) = record g { ospf = g.ospf ++ section ∷ [] }
with_section g (Isis section) = record g { isis = g.isis ++ section ∷ [] }
with_section g (Faulty fault) = record g { faults = g.faults ++ fault ∷ [] }
with_section g Other = g

-- nothing yet
abbrev pub nothing_gathered : Gathering
nothing_gathered = record { name = None; interfaces = []; ospf = []; isis = []; faults = [] }
