-- What a section says: its first line, and its lines.
use Rattle.std.specs.Prelude.{ℕ, ◌-◌, ◌&&◌, Bool, List, [], ◌∷◌, Ok, Err, map, if◌then◌else◌}
use Rattle.ios_lines.specs.InterfaceLines.{interface_line}
use Rattle.ios_lines.specs.OspfLines.{ospf_line}
use Rattle.ios_lines.specs.IsisLines.{isis_line}
use Rattle.ios_lines.specs.Heads.{head_of}
use Rattle.ios_sections.specs.TextLines.{TextLine, TextSection, Part, opens_section, sections_of}
use Rattle.ios_sections.specs.TellingLines.{may_tell}
use Rattle.ios_lines.specs.declared.interface_line.InterfaceStatement.{InterfaceStatement}
use Rattle.ios_lines.specs.declared.ospf_line.OspfStatement.{OspfStatement}
use Rattle.ios_lines.specs.declared.isis_line.IsisStatement.{IsisStatement}
use Rattle.ios_lines.specs.declared.head.Head.{Head}
use Rattle.ios_lines.specs.declared.head.Head.TheVariants.{Hostname as NameHead, Interface as InterfaceHead, Ospf as OspfHead, Isis as IsisHead}
use Rattle.ios_lines.specs.declared.head.Head.TheVariants.{Faulty as FaultyHead, Other as OtherHead}
use Rattle.ios_sections.specs.declared.section.Section.{Section}
use Rattle.ios_sections.specs.declared.section.Section.TheVariants.{Hostname, Interface, Ospf, Isis, Faulty, Other}

-- the lines of an interface, each with its number
abbrev pub interface_statements : List TextLine → List InterfaceStatement
interface_statements lines = map (λ line. record { line = line.number; says = interface_line line.words }) lines

-- the lines of an OSPF process, each with its number
abbrev pub ospf_statements : List TextLine → List OspfStatement
ospf_statements lines = map (λ line. record { line = line.number; says = ospf_line line.words }) lines

-- the lines of an IS-IS process, each with its number
abbrev pub isis_statements : List TextLine → List IsisStatement
isis_statements lines = map (λ line. record { line = line.number; says = isis_line line.words }) lines

-- a section by what its first line says; under a faulty first line it says nothing
abbrev pub section_with : Head → ℕ → List TextLine → Section
section_with (NameHead (Ok name)) line body = Hostname name
section_with (NameHead (Err kind)) line body = Faulty (record { line = line; kind = kind })
section_with (InterfaceHead (Ok name)) line body = Interface (record { line = line; name = name; lines = interface_statements body })
section_with (InterfaceHead (Err kind)) line body = Faulty (record { line = line; kind = kind })
section_with (OspfHead (Ok process)) line body = Ospf (record { line = line; process = process; lines = ospf_statements body })
section_with (OspfHead (Err kind)) line body = Faulty (record { line = line; kind = kind })
section_with (IsisHead tag) line body = Isis (record { line = line; tag = tag; lines = isis_statements body })
section_with (FaultyHead kind) line body = Faulty (record { line = line; kind = kind })
section_with OtherHead line body = Other

-- what a section says
abbrev pub section_of : TextSection → Section
section_of section = section_with (head_of section.head.words) section.head.number section.body

-- what the sections of some lines say
abbrev pub sections_among : List TextLine → List Section
sections_among lines = map section_of (sections_of lines)

-- ---- the lines of a configuration, counted from the first one that may tell something ----

-- a line, counted from the line of this number
abbrev pub counted_from : ℕ → TextLine → TextLine
counted_from first line = record { number = line.number - first; indent = line.indent; bytes = line.bytes; words = line.words }

-- the line opens a section and may tell something
abbrev pub may_begin : TextLine → Bool
may_begin line = opens_section line && may_tell line

-- the lines from the first such line on
abbrev pub own_lines : List TextLine → List TextLine
own_lines [] = []
own_lines (line ∷ lines) = if may_begin line then line ∷ lines else own_lines lines

-- the number of the first of some lines, 0 where there is none
abbrev pub head_number : List TextLine → ℕ
head_number [] = 0
head_number (line ∷ _) = line.number

-- the number of the first line that opens a section and may tell something
abbrev pub first_number : List TextLine → ℕ
first_number lines = head_number (own_lines lines)

-- the lines from that line on, counted from it
abbrev pub from_first : List TextLine → List TextLine
from_first lines = map (counted_from (first_number lines)) (own_lines lines)

-- what the lines of a configuration say, wherever they stand
abbrev pub sections_from_first : List TextLine → List Section
sections_from_first lines = sections_among (from_first lines)

-- what the sections of a part say
abbrev pub sections_in : Part → List Section
sections_in part = sections_from_first part.lines
