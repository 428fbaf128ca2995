-- How the lines of configurations are told: each with the first line of its section, and with what it stands below.
use Rattle.std.specs.Prelude.{ℕ, Bool, ◌||◌, List, [], ◌∷◌, ◌++◌, Ok, bytes_eq, codes, flat_map, if◌then◌else◌, map, nat_lt}
use Rattle.std.specs.List.{list_any}
use Rattle.ios_lines.specs.Heads.{head_of}
use Rattle.ios_lines.specs.Words.{Word, begins_with_three, begins_with_two}
use Rattle.ios_lines.specs.declared.head.Head.{Head}
use Rattle.ios_lines.specs.declared.head.Head.TheVariants.{Interface as InterfaceHead, Ospf as OspfHead, Isis as IsisHead}
use Rattle.ios_sections.specs.TextLines.{Part, TextLine, TextSection, counted_lines, parts_after, sections_of}
use Rattle.text_survey.specs.declared.told_line.LinePlace.{LinePlace}
use Rattle.text_survey.specs.declared.told_line.LinePlace.TheVariants.{Top, Interface, Ospf, Isis, Elsewhere}

-- a line as it is told: its number, where it stands, the bytes of the first line of its section, and its own
pub record ToldLine : Type 0 where
  pub number : ℕ
  pub place : LinePlace
  pub head : List ℕ
  pub own : List ℕ

-- a line at indent 0
abbrev pub top_line : ℕ → List ℕ → ToldLine
top_line number bytes = record { number = number; place = Top; head = bytes; own = bytes }

-- a line below the first one of a section
abbrev pub line_below : LinePlace → List ℕ → ℕ → List ℕ → ToldLine
line_below place head number own = record { number = number; place = place; head = head; own = own }

-- ---- interfaces that are in a VRF ----

-- a line of an interface says that it is in a VRF
abbrev pub is_vrf_line : TextLine → Bool
is_vrf_line line =
    begins_with_two line.words (codes "vrf") (codes "forwarding")
    || begins_with_three line.words (codes "ip") (codes "vrf") (codes "forwarding")

-- one of some lines does
abbrev pub has_vrf_line : List TextLine → Bool
has_vrf_line lines = list_any is_vrf_line lines

-- the name of the interface whose section a line opens
abbrev pub name_of_head : Head → List Word
name_of_head (InterfaceHead (Ok name)) = name ∷ []
name_of_head _ = []

-- the name of an interface, where this section of it has such a line
abbrev pub vrf_name : TextSection → List Word
vrf_name section = if has_vrf_line section.body then name_of_head (head_of section.head.words) else []

-- the names of the interfaces of a configuration that are in a VRF
abbrev pub vrf_names : List TextLine → List Word
vrf_names lines = flat_map vrf_name (sections_of lines)

-- ---- the lines of a text ----

-- what the lines below a line at indent 0 stand below, where the interfaces of these names are in a VRF
abbrev pub place_below : List Word → Head → LinePlace
place_below names (InterfaceHead (Ok name)) = if list_any (bytes_eq name) names then Elsewhere else Interface
place_below names (OspfHead (Ok process)) = Ospf
place_below names (IsisHead tag) = Isis
place_below names _ = Elsewhere

-- the lines below the first line of a section
abbrev pub told_below : LinePlace → List ℕ → List TextLine → List ToldLine
told_below place head lines = map (λ (line : TextLine). line_below place head line.number line.bytes) lines

-- the lines of a section: that at indent 0, and those below it
abbrev pub told_section : List Word → TextSection → List ToldLine
told_section names section =
    top_line section.head.number section.head.bytes
    ∷ told_below (place_below names (head_of section.head.words)) section.head.bytes section.body

-- the lines of a configuration, with its `end` line
abbrev pub told_part : Part → List ToldLine
told_part part = flat_map (told_section (vrf_names part.lines)) (sections_of part.lines) ++ top_line part.ends (codes "end") ∷ []

-- the lines of the configurations that `end` lines end, of lines that count
abbrev pub told_among : List TextLine → List ToldLine
told_among counted = flat_map told_part (parts_after [] counted)

-- the lines of the configurations of a text; what stands behind its last `end` line is of none
abbrev pub told_lines : List TextLine → List ToldLine
told_lines lines = told_among (counted_lines lines)

-- a line without what it stands below: at indent 0, or below another line
abbrev pub shown_place : LinePlace → LinePlace
shown_place Top = Top
shown_place _ = Elsewhere

abbrev pub without_place : ToldLine → ToldLine
without_place line = record { number = line.number; place = shown_place line.place; head = line.head; own = line.own }

-- those from the first one on whose number isn't below this one
abbrev pub from_line : ℕ → List ToldLine → List ToldLine
from_line number [] = []
from_line number (line ∷ lines) = if nat_lt line.number number then from_line number lines else line ∷ lines
