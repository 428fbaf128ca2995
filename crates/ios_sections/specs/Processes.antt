-- What the sections of a configuration say, one by one: its interfaces, and the lines of its two processes.
use Rattle.std.specs.Prelude.{ℕ, Bool, false, ◌&&◌, List, [], ◌∷◌, ◌++◌, Option, Some, None, Ok, map, filter, filter_map, flat_map, fold, option_map}
use Rattle.std.specs.Prelude.{bytes_eq, nat_eq, nat_lt, if◌then◌else◌}
use Rattle.std.specs.List.{list_all}
use Rattle.ios_lines.specs.Words.{Word, is_printable}
use Rattle.ios_lines.specs.Lookups.{first_seen}
use Rattle.ios_lines.specs.InterfaceLines.{counting}
use Rattle.ios_lines.specs.declared.fault.Fault.{Fault}
use Rattle.ios_sections.specs.declared.process.Mention.{Mention}
use Rattle.ios_lines.specs.declared.interface_line.InterfaceLine.{InterfaceLine}
use Rattle.ios_lines.specs.declared.interface_line.InterfaceLine.TheVariants.{Area}
use Rattle.ios_lines.specs.declared.interface_line.InterfaceStatement.{InterfaceStatement}
use Rattle.ios_lines.specs.declared.ospf_line.OspfStatement.{OspfStatement}
use Rattle.ios_lines.specs.declared.isis_line.IsisStatement.{IsisStatement}
use Rattle.ios_sections.specs.declared.section.InterfaceSection.{InterfaceSection}
use Rattle.ios_sections.specs.declared.section.OspfSection.{OspfSection}
use Rattle.ios_sections.specs.declared.section.IsisSection.{IsisSection}
use Rattle.ios_sections.specs.declared.section.Section.{Section}
use Rattle.ios_sections.specs.declared.section.Section.TheVariants.{Hostname, Interface, Ospf, Isis, Faulty}

-- ---- sections by what they say ----

-- a section that names the router
abbrev pub as_hostname : Section → Option Word
as_hostname (Hostname name) = Some name
as_hostname _ = None

-- a section of an interface
abbrev pub as_interface : Section → Option InterfaceSection
as_interface (Interface section) = Some section
as_interface _ = None

-- a section of an OSPF process
abbrev pub as_ospf : Section → Option OspfSection
as_ospf (Ospf section) = Some section
as_ospf _ = None

-- a section of an IS-IS process
abbrev pub as_isis : Section → Option IsisSection
as_isis (Isis section) = Some section
as_isis _ = None

-- a section whose first line is faulty
abbrev pub as_fault : Section → Option Fault
as_fault (Faulty fault) = Some fault
as_fault _ = None

-- ---- interfaces: all sections of a name are one ----

-- the sections of this name
abbrev pub named : Word → List InterfaceSection → List InterfaceSection
named name sections = filter (λ (s : InterfaceSection). bytes_eq name s.name) sections

-- the line of the first section
abbrev pub first_line : List InterfaceSection → ℕ
first_line [] = 0
first_line (section ∷ _) = section.line

-- the sections of this name as one, in the order of the text
abbrev pub merged : List InterfaceSection → Word → InterfaceSection
merged sections name = record {
  line = first_line (named name sections);
  name = name;
  lines = flat_map (λ (s : InterfaceSection). s.lines) (named name sections);
}

-- the interfaces, in the order in which the configuration first names them
abbrev pub merged_interfaces : List InterfaceSection → List InterfaceSection
merged_interfaces sections = map (merged sections) (first_seen (map (λ (s : InterfaceSection). s.name) sections))

-- the interfaces of a configuration
abbrev pub interfaces_in : List Section → List InterfaceSection
interfaces_in sections = merged_interfaces (filter_map as_interface sections)

-- ---- the OSPF process ----

-- the process that a line `ip ospf P area N` names
abbrev pub mention_said : ℕ → InterfaceLine → Option Mention
mention_said line (Area (Ok area)) = Some (record { line = line; process = area.process })
mention_said line _ = None

-- the lines of some interface that name a process; those of an interface in a VRF don't
abbrev pub mentions_in : InterfaceSection → List Mention
mentions_in section = filter_map (λ (t : InterfaceStatement). mention_said t.line t.says) (counting section.lines)

-- the line that opens a section of a process names it
abbrev pub mention_of : OspfSection → Mention
mention_of section = record { line = section.line; process = section.process }

-- the lines that name a process
abbrev pub mentions_of : List OspfSection → List InterfaceSection → List Mention
mentions_of ospf interfaces = map mention_of ospf ++ flat_map mentions_in interfaces

-- the lines of a configuration that name a process
abbrev pub mentions : List Section → List Mention
mentions sections = mentions_of (filter_map as_ospf sections) (interfaces_in sections)

-- of two lines the one that comes first
abbrev pub first_mention : Option Mention → Mention → Option Mention
first_mention None m = Some m
first_mention (Some n) m = if nat_lt m.line n.line then Some m else Some n

-- the line that comes first
abbrev pub least_mention : List Mention → Option Mention
least_mention ms = fold first_mention None ms

-- the process that comes first
abbrev pub first_process : List Mention → Option ℕ
first_process ms = option_map (λ (m : Mention). m.process) (least_mention ms)

-- the process of the router: the first that the configuration names
abbrev pub process_of : List Section → Option ℕ
process_of sections = first_process (mentions sections)

-- the section is of this process
abbrev pub is_of_process : Option ℕ → OspfSection → Bool
is_of_process None section = false
is_of_process (Some process) section = nat_eq section.process process

-- the lines of a section, where it is of this process
abbrev pub lines_of_process : Option ℕ → OspfSection → List OspfStatement
lines_of_process process section = if is_of_process process section then section.lines else []

-- the lines of the process
abbrev pub ospf_lines : List Section → List OspfStatement
ospf_lines sections = flat_map (lines_of_process (process_of sections)) (filter_map as_ospf sections)

-- ---- the IS-IS process ----

-- the tag of the process of the router: of the first that the configuration opens
abbrev pub first_tag : List IsisSection → Option Word
first_tag [] = None
first_tag (section ∷ _) = Some section.tag

-- the section is of this process, and its first line isn't faulty
abbrev pub is_of_tag : Option Word → IsisSection → Bool
is_of_tag None section = false
is_of_tag (Some tag) section = bytes_eq section.tag tag && list_all is_printable section.tag

-- the lines of a section, where it is of this process
abbrev pub lines_of_tag : Option Word → IsisSection → List IsisStatement
lines_of_tag tag section = if is_of_tag tag section then section.lines else []

-- the lines of the process
abbrev pub isis_lines : List Section → List IsisStatement
isis_lines sections =
    let all = filter_map as_isis sections in
    flat_map (lines_of_tag (first_tag all)) all
