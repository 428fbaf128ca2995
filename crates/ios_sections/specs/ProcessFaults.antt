-- The faulty lines of the two processes, each with its kind.
use Rattle.std.specs.Prelude.{ℕ, Bool, true, false, not, List, [], ◌∷◌, ◌++◌, Option, Some, None, map, drop, filter, filter_map, flat_map, bytes_eq, nat_eq}
use Rattle.std.specs.List.{list_all, list_any}
use Rattle.ios_lines.specs.Words.{Word, is_printable}
use Rattle.ios_lines.specs.OspfLines.{ospf_line_fault}
use Rattle.ios_lines.specs.IsisLines.{isis_line_fault}
use Rattle.ios_sections.specs.Processes.{as_isis, mentions, process_of, first_tag, ospf_lines, isis_lines}
use Rattle.ios_lines.specs.declared.kind.ReadKind.TheVariants.{SecondProcess, Unsupported, BadNet}
use Rattle.ios_lines.specs.declared.fault.Fault.{Fault}
use Rattle.ios_sections.specs.declared.process.Mention.{Mention}
use Rattle.ios_lines.specs.declared.ospf_line.OspfStatement.{OspfStatement}
use Rattle.ios_lines.specs.declared.isis_line.IsisLine.{IsisLine}
use Rattle.ios_lines.specs.declared.isis_line.IsisLine.TheVariants.{Net, MetricStyle}
use Rattle.ios_lines.specs.declared.isis_line.IsisStatement.{IsisStatement}
use Rattle.ios_sections.specs.declared.section.IsisSection.{IsisSection}
use Rattle.ios_sections.specs.declared.section.Section.{Section}
use Rattle.ios_lines.specs.FaultOrder.{fault_at, faults_at, faults_if}

-- a process number other than the router's
abbrev pub is_other_process : Option ℕ → Mention → Bool
is_other_process None mention = true
is_other_process (Some process) mention = not (nat_eq mention.process process)

-- a line that names a second process
abbrev pub process_faults : Option ℕ → Mention → List Fault
process_faults process m = faults_if (is_other_process process m) m.line SecondProcess

-- each line that names a second process
abbrev pub second_processes : List Section → List Fault
second_processes sections =
    flat_map (process_faults (process_of sections)) (mentions sections)

-- the faults of a line of the OSPF process
abbrev pub ospf_statement_faults : OspfStatement → List Fault
ospf_statement_faults s = faults_at s.line (ospf_line_fault s.says)

-- the faults of the lines of the OSPF process
abbrev pub ospf_faults : List Section → List Fault
ospf_faults sections = flat_map ospf_statement_faults (ospf_lines sections)

-- a tag other than that of the router's process
abbrev pub is_other_tag : Option Word → Word → Bool
is_other_tag None tag = true
is_other_tag (Some first) tag = not (bytes_eq tag first)

-- a `router isis` line with another tag, or with a tag that has a byte that isn't printable
abbrev pub tag_faults_of : Option Word → IsisSection → List Fault
tag_faults_of first s =
    faults_if (is_other_tag first s.tag) s.line SecondProcess ++ faults_if (not (list_all is_printable s.tag)) s.line Unsupported

-- the faults of the `router isis` lines
abbrev pub tag_faults : List IsisSection → List Fault
tag_faults sections = flat_map (tag_faults_of (first_tag sections)) sections

-- whether a line is a `net` line
abbrev pub is_net_line : IsisLine → Bool
is_net_line (Net _) = true
is_net_line _ = false

-- whether a line is a `metric-style` line
abbrev pub is_style_line : IsisLine → Bool
is_style_line (MetricStyle _) = true
is_style_line _ = false

-- a `net` line
abbrev pub is_net : IsisStatement → Bool
is_net s = is_net_line s.says

-- a `metric-style` line
abbrev pub is_metric_style : IsisStatement → Bool
is_metric_style s = is_style_line s.says

-- what the first `router isis` line lacks: a `net` line, a `metric-style` line
abbrev pub lacking : Option ℕ → List IsisStatement → List Fault
lacking None lines = []
lacking (Some first) lines =
    faults_if (not (list_any is_net lines)) first BadNet
    ++ faults_if (not (list_any is_metric_style lines)) first Unsupported

-- the first `router isis` line
abbrev pub first_isis_line : List IsisSection → Option ℕ
first_isis_line [] = None
first_isis_line (section ∷ _) = Some section.line

-- each `net` line after the first one
abbrev pub second_titles : List IsisStatement → List Fault
second_titles lines = map (λ (s : IsisStatement). fault_at s.line Unsupported) (drop 1 (filter is_net lines))

-- the faults of a line of the IS-IS process
abbrev pub isis_statement_faults : IsisStatement → List Fault
isis_statement_faults s = faults_at s.line (isis_line_fault s.says)

-- the faults of the IS-IS process
abbrev pub isis_faults : List Section → List Fault
isis_faults sections =
    let all = filter_map as_isis sections in
    let lines = isis_lines sections in
    tag_faults all
    ++ flat_map isis_statement_faults lines
    ++ second_titles lines
    ++ lacking (first_isis_line all) lines
