-- The values that sections give are in their ranges.
use Rattle.std.proofs.lemmas.Grind.{common_steps}
use Rattle.std.proofs.Common.{◌≡◌, ℕ, Bool, true, false, bytes_eq, List, [], get_or, Option, None, Ok, Err, refl, cond, map, arith}
use Rattle.std.specs.Prelude.{IfSome, IfOk, All, filter_map, flat_map, option_map}
use Rattle.std.proofs.lemmas.List.Elements.{All-nil, All-append, All-map, All-filter}
use Rattle.ios_lines.specs.Words.{Word, says}
use Rattle.ios_lines.specs.Heads.{is_router_name, hostname_of, router_head, head_of}
use Rattle.ios_sections.specs.TextLines.{TextLine, Part, sections_of}
use Rattle.ios_lines.specs.InterfaceLines.{interface_line, in_vrf, counting}
use Rattle.ios_lines.specs.OspfLines.{ospf_line}
use Rattle.ios_lines.specs.IsisLines.{isis_line}
use Rattle.ios_sections.specs.Sections.{interface_statements, ospf_statements, isis_statements, section_with, section_of, from_first, sections_among, sections_in}
use Rattle.ios_lines.specs.Lookups.{first_seen}
use Rattle.ios_sections.specs.Processes.{as_hostname, as_interface, as_ospf, as_isis, named, merged, interfaces_in, mention_said, mentions_in, mention_of}
use Rattle.ios_sections.specs.Processes.{mentions_of, mentions, first_mention, least_mention, process_of, is_of_process, lines_of_process, ospf_lines}
use Rattle.ios_sections.specs.Processes.{first_tag, is_of_tag, lines_of_tag, isis_lines}
use Rattle.ios_lines.specs.declared.kind.ReadKind.TheVariants.{NoHostname}
use Rattle.ios_lines.specs.declared.head.Head.{Head}
use Rattle.ios_lines.specs.declared.head.Head.TheVariants.{Hostname as NameHead, Interface as InterfaceHead, Ospf as OspfHead, Isis as IsisHead}
use Rattle.ios_lines.specs.declared.head.Head.TheVariants.{Faulty as FaultyHead, Other as OtherHead}
use Rattle.ios_sections.specs.declared.process.Mention.{Mention}
use Rattle.ios_lines.specs.declared.interface_line.InterfaceLine.{InterfaceLine}
use Rattle.ios_lines.specs.declared.interface_line.InterfaceStatement.{InterfaceStatement}
use Rattle.ios_lines.specs.declared.ospf_line.OspfStatement.{OspfStatement}
use Rattle.ios_lines.specs.declared.isis_line.IsisStatement.{IsisStatement}
use Rattle.ios_sections.specs.declared.section.InterfaceSection.{InterfaceSection}
use Rattle.ios_sections.specs.declared.section.OspfSection.{OspfSection}
use Rattle.ios_sections.specs.declared.section.IsisSection.{IsisSection}
use Rattle.ios_sections.specs.declared.section.Section.{Section}
use Rattle.ios_sections.specs.declared.section.Section.TheVariants.{Hostname, Interface, Ospf, Isis}
use Rattle.ios_lines.proofs.Picked.{by_if, all_taken, all_flat, fold_keeps}
use Rattle.ios_lines.proofs.GoodLines.{IsFrom, number_good, IsGoodInterfaceLine, interface_line_good, IsGoodOspfLine, ospf_line_good, IsGoodIsisLine}
use Rattle.ios_lines.proofs.GoodLines.{isis_line_good}

abbrev pub IsGoodStatement : InterfaceStatement → Type 0
IsGoodStatement s = IsGoodInterfaceLine s.says

abbrev pub IsGoodOspf : OspfStatement → Type 0
IsGoodOspf s = IsGoodOspfLine s.says

abbrev pub IsGoodIsis : IsisStatement → Type 0
IsGoodIsis s = IsGoodIsisLine s.says

-- the values of a section of an interface are in their ranges
abbrev pub IsGoodInterface : InterfaceSection → Type 0
IsGoodInterface s = All IsGoodStatement s.lines

-- the values of a section of an OSPF process are in their ranges
pub record IsGoodProcess (s : OspfSection) : Type 0 where
  pub process : IsFrom 1 65535 s.process
  pub lines : All IsGoodOspf s.lines

-- the values of a section are in their ranges
abbrev pub IsGoodSection : Section → Type 0
IsGoodSection (Hostname name) = is_router_name name ≡ true
IsGoodSection (Interface s) = IsGoodInterface s
IsGoodSection (Ospf s) = IsGoodProcess s
IsGoodSection (Isis s) = All IsGoodIsis s.lines
IsGoodSection _ = Unit {0}

-- ---- first lines ----

abbrev IsGoodHead : Head → Type 0
IsGoodHead (NameHead r) = IfOk r (λ (name : Word). is_router_name name ≡ true)
IsGoodHead (OspfHead r) = IfOk r (IsFrom 1 65535)
IsGoodHead _ = Unit {0}

hostname_good : (word : Word) → IfOk (hostname_of word) (λ (name : Word). is_router_name name ≡ true)
hostname_good word = choice (is_router_name word) refl
  where
    choice : (t : Bool) → is_router_name word ≡ t → IfOk (cond t (Ok word) (Err NoHostname)) (λ (name : Word). is_router_name name ≡ true)
    choice true e = e
    choice false e = tt

router_good : (words : List Word) → IsGoodHead (router_head words)
router_good words = grind (arith, common_steps, by_if, number_good)

head_good : (words : List Word) → IsGoodHead (head_of words)
head_good words = grind (arith, common_steps, by_if, hostname_good, router_good)

-- ---- sections ----

interface_lines_good : (body : List TextLine) → All IsGoodStatement (interface_statements body)
interface_lines_good body =
    All-map IsGoodStatement (λ (line : TextLine). record { line = line.number; says = interface_line line.words }) body
    (λ k d lt. interface_line_good (get_or body k d).words)

ospf_lines_good : (body : List TextLine) → All IsGoodOspf (ospf_statements body)
ospf_lines_good body =
    All-map IsGoodOspf (λ (line : TextLine). record { line = line.number; says = ospf_line line.words }) body
    (λ k d lt. ospf_line_good (get_or body k d).words)

isis_lines_good : (body : List TextLine) → All IsGoodIsis (isis_statements body)
isis_lines_good body =
    All-map IsGoodIsis (λ (line : TextLine). record { line = line.number; says = isis_line line.words }) body
    (λ k d lt. isis_line_good (get_or body k d).words)

with_good : (h : Head) (line : ℕ) (body : List TextLine) → IsGoodHead h → IsGoodSection (section_with h line body)
with_good (NameHead (Ok name)) line body h = h
with_good (NameHead (Err kind)) line body h = tt
with_good (InterfaceHead (Ok name)) line body h = interface_lines_good body
with_good (InterfaceHead (Err kind)) line body h = tt
with_good (OspfHead (Ok process)) line body h = record { process = h; lines = ospf_lines_good body }
with_good (OspfHead (Err kind)) line body h = tt
with_good (IsisHead tag) line body h = isis_lines_good body
with_good (FaultyHead kind) line body h = tt
with_good OtherHead line body h = tt

among_good : (lines : List TextLine) → All IsGoodSection (sections_among lines)
among_good lines =
    All-map IsGoodSection section_of (sections_of lines)
    (λ k d lt. with_good (head_of (get_or (sections_of lines) k d).head.words) (get_or (sections_of lines) k d).head.number
    (get_or (sections_of lines) k d).body (head_good (get_or (sections_of lines) k d).head.words))

-- the values of each section of a part are in their ranges
pub sections_good : (part : Part) → All IsGoodSection (sections_in part)
sections_good part = among_good (from_first part.lines)

-- ---- sections by what they say ----

pub as_hostname_good : (s : Section) → IsGoodSection s → IfSome (as_hostname s) (λ (name : Word). is_router_name name ≡ true)
as_hostname_good s h = grind arith

as_interface_good : (s : Section) → IsGoodSection s → IfSome (as_interface s) IsGoodInterface
as_interface_good s h = grind arith

as_ospf_good : (s : Section) → IsGoodSection s → IfSome (as_ospf s) IsGoodProcess
as_ospf_good s h = grind arith

as_isis_good : (s : Section) → IsGoodSection s → IfSome (as_isis s) (λ (s : IsisSection). All IsGoodIsis s.lines)
as_isis_good s h = grind arith

-- the interfaces, each with all its lines
pub interfaces_good : (sections : List Section) → All IsGoodSection sections → All IsGoodInterface (interfaces_in sections)
interfaces_good sections h =
    let parts : List InterfaceSection = filter_map as_interface sections in
    let good : All IsGoodInterface (filter_map as_interface sections) = all_taken as_interface IsGoodSection IsGoodInterface as_interface_good sections h in
    All-map IsGoodInterface (merged (filter_map as_interface sections))
    (first_seen (map (λ (s : InterfaceSection). s.name) (filter_map as_interface sections)))
    (λ k d lt. merged_good (filter_map as_interface sections)
    (get_or (first_seen (map (λ (s : InterfaceSection). s.name) (filter_map as_interface sections))) k d) good)
  where
    merged_good : (parts : List InterfaceSection) (name : Word) → All IsGoodInterface parts →
        All IsGoodStatement (flat_map (λ (s : InterfaceSection). s.lines) (named name parts))
    merged_good parts name good =
        all_flat (λ (s : InterfaceSection). s.lines) IsGoodInterface IsGoodStatement (λ s g. g) (named name parts)
        (All-filter (λ (s : InterfaceSection). bytes_eq name s.name) IsGoodInterface parts good)

-- the lines of an interface that count
pub counting_good : (lines : List InterfaceStatement) → All IsGoodStatement lines → All IsGoodStatement (counting lines)
counting_good lines h = by_if (λ (w : List InterfaceStatement). All IsGoodStatement w) (in_vrf lines) [] lines (All-nil IsGoodStatement) h

-- ---- the OSPF process ----

abbrev IsGoodMention : Mention → Type 0
IsGoodMention m = IsFrom 1 65535 m.process

said_good : (line : ℕ) (says : InterfaceLine) → IsGoodInterfaceLine says → IfSome (mention_said line says) IsGoodMention
said_good line says h = grind arith

mentions_good : (ospf : List OspfSection) (interfaces : List InterfaceSection) → All IsGoodProcess ospf → All IsGoodInterface interfaces →
    All IsGoodMention (mentions_of ospf interfaces)
mentions_good ospf interfaces h i =
    All-append IsGoodMention (map mention_of ospf) (flat_map mentions_in interfaces)
    (All-map IsGoodMention mention_of ospf (λ k d lt. (h k d lt).process))
    (all_flat mentions_in IsGoodInterface IsGoodMention
    (λ s g. all_taken (λ (t : InterfaceStatement). mention_said t.line t.says) IsGoodStatement IsGoodMention (λ t good. said_good t.line t.says good)
    (counting s.lines) (counting_good s.lines g))
    interfaces i)

first_good : (o : Option Mention) (m : Mention) → IfSome o IsGoodMention → IsGoodMention m → IfSome (first_mention o m) IsGoodMention
first_good o m h g = grind (arith, common_steps, by_if)

process_good : (o : Option Mention) → IfSome o IsGoodMention → IfSome (option_map (λ (m : Mention). m.process) o) (IsFrom 1 65535)
process_good o h = grind (arith, common_steps)

-- the number of the process
pub number_of_process : (sections : List Section) → All IsGoodSection sections → IfSome (process_of sections) (IsFrom 1 65535)
number_of_process sections h =
    process_good (least_mention (mentions sections))
    (fold_keeps (λ (o : Option Mention). IfSome o IsGoodMention) IsGoodMention first_mention first_good None (mentions sections) tt
    (mentions_good (filter_map as_ospf sections) (interfaces_in sections) (all_taken as_ospf IsGoodSection IsGoodProcess as_ospf_good sections h)
    (interfaces_good sections h)))

-- the lines of the process
pub ospf_good : (sections : List Section) → All IsGoodSection sections → All IsGoodOspf (ospf_lines sections)
ospf_good sections h =
    all_flat (lines_of_process (process_of sections)) IsGoodProcess IsGoodOspf
    (λ s g. by_if (λ (w : List OspfStatement). All IsGoodOspf w) (is_of_process (process_of sections) s) s.lines [] g.lines (All-nil IsGoodOspf))
    (filter_map as_ospf sections) (all_taken as_ospf IsGoodSection IsGoodProcess as_ospf_good sections h)

-- ---- the IS-IS process ----

-- the lines of the process
pub isis_good : (sections : List Section) → All IsGoodSection sections → All IsGoodIsis (isis_lines sections)
isis_good sections h =
    let all : List IsisSection = filter_map as_isis sections in
    all_flat (lines_of_tag (first_tag (filter_map as_isis sections))) (λ (s : IsisSection). All IsGoodIsis s.lines) IsGoodIsis
    (λ s g. by_if (λ (w : List IsisStatement). All IsGoodIsis w) (is_of_tag (first_tag (filter_map as_isis sections)) s) s.lines [] g (All-nil IsGoodIsis))
    (filter_map as_isis sections) (all_taken as_isis IsGoodSection (λ (s : IsisSection). All IsGoodIsis s.lines) as_isis_good sections h)
