-- The faulty lines of a configuration, each with its kind.
pub use Rattle.ios_lines.specs.FaultOrder.{fault_at}
use Rattle.std.specs.Prelude.{ℕ, ◌+◌, ◌-◌, Bool, false, not, ◌&&◌, List, [], ◌++◌, Option, Some, None, Result, Ok, Err, length, map, filter_map, flat_map, bytes_eq}
use Rattle.std.specs.Prelude.{nat_eq, is_some, is_none, if◌then◌else◌}
use Rattle.ios_lines.specs.Words.{Word}
use Rattle.ios_lines.specs.Lookups.{last_of}
use Rattle.ios_sections.specs.TextLines.{TextLine, Part, parts_of, lacks_end}
use Rattle.ios_lines.specs.InterfaceLines.{interface_line_fault, counting}
use Rattle.ios_reader.specs.InterfaceFacts.{facts_of}
use Rattle.ios_sections.specs.Processes.{as_hostname, as_isis, as_fault, interfaces_in, first_tag}
use Rattle.ios_reader.specs.Routers.{Router, router_of}
use Rattle.ios_reader.specs.InterfacesAsRead.{is_loopback, is_up, interface_area, ospf_cost}
use Rattle.ios_lines.specs.declared.kind.ReadKind.{ReadKind}
use Rattle.ios_lines.specs.declared.kind.ReadKind.TheVariants.{NoHostname, NoEnd, SecondProcess, LoopbackMask, BadNet, NoBandwidth}
use Rattle.ios_lines.specs.declared.fault.Fault.{Fault}
use Rattle.ios_lines.specs.declared.address.InterfaceAddress.{InterfaceAddress}
use Rattle.ios_lines.specs.declared.interface_line.InterfaceLine.{InterfaceLine}
use Rattle.ios_lines.specs.declared.interface_line.InterfaceLine.TheVariants.{Isis}
use Rattle.ios_lines.specs.declared.interface_line.InterfaceStatement.{InterfaceStatement}
use Rattle.ios_reader.specs.declared.facts.PlacedAddress.{PlacedAddress}
use Rattle.ios_reader.specs.declared.facts.InterfaceFacts.{InterfaceFacts}
use Rattle.ios_sections.specs.declared.section.InterfaceSection.{InterfaceSection}
use Rattle.ios_sections.specs.declared.section.Section.{Section}
use Rattle.ios_lines.specs.FaultOrder.{faults_at, faults_if}
use Rattle.ios_sections.specs.ProcessFaults.{second_processes, ospf_faults, isis_faults}
use Rattle.ios_sections.specs.Sections.{first_number, sections_in}

-- ---- interfaces ----

-- `ip router isis` with no process, or with another tag than the process has
abbrev pub membership_of : Option Word → Word → Option ReadKind
membership_of None tag = Some BadNet
membership_of (Some first) tag = if bytes_eq tag first then None else Some SecondProcess

-- the fault that a line `ip router isis` has by the process of the router
abbrev pub membership_fault : Option Word → InterfaceLine → Option ReadKind
membership_fault first (Isis tag) = membership_of first tag
membership_fault first _ = None

-- the faults of a line of an interface
abbrev pub statement_faults : Option Word → InterfaceStatement → List Fault
statement_faults first s =
    faults_at s.line (interface_line_fault s.says) ++ faults_at s.line (membership_fault first s.says)

-- the faults of the lines of an interface
abbrev pub interface_line_faults : Option Word → List InterfaceStatement → List Fault
interface_line_faults first lines = flat_map (statement_faults first) lines

-- an address that is there and good, with a mask of fewer than 32 bits
abbrev pub long_mask : ℕ → Result InterfaceAddress ReadKind → List Fault
long_mask line (Ok given) = faults_if (not (nat_eq given.len 32)) line LoopbackMask
long_mask line (Err _) = []

-- the fault of the last address line, where its mask is of fewer than 32 bits
abbrev pub address_mask_faults : Option (Option PlacedAddress) → List Fault
address_mask_faults (Some (Some placed)) = long_mask placed.line placed.address
address_mask_faults (Some None) = []
address_mask_faults None = []

-- the interface is said to be point-to-point
abbrev pub is_point_to_point : Option (Result Bool ReadKind) → Bool
is_point_to_point (Some (Ok point_to_point)) = point_to_point
is_point_to_point _ = false

-- an up loopback that isn't point-to-point, and whose mask isn't of 32 bits, at its address line
abbrev pub loopback_faults : Word → InterfaceFacts → List Fault
loopback_faults name facts =
    if is_loopback name && is_up facts && not (is_point_to_point facts.point_to_point)
    then address_mask_faults facts.address else []

-- an up interface with an area, and without anything that gives its cost, at its first line
abbrev pub bandwidth_faults : Router → InterfaceSection → InterfaceFacts → List Fault
bandwidth_faults router section facts =
    faults_if (is_up facts && is_some (interface_area router facts) && is_none (ospf_cost router section.name facts)) section.line NoBandwidth

-- the faults of an interface
abbrev pub interface_faults : Router → Option Word → InterfaceSection → List Fault
interface_faults router first section =
    let lines = counting section.lines in
    interface_line_faults first lines
    ++ loopback_faults section.name (facts_of lines)
    ++ bandwidth_faults router section (facts_of lines)

-- ---- a configuration, and a text ----

-- the faults of a configuration whose `end` line has this number, as its lines are counted
abbrev pub section_faults : List Section → ℕ → List Fault
section_faults sections ends =
    filter_map as_fault sections
    ++ second_processes sections
    ++ ospf_faults sections
    ++ isis_faults sections
    ++ flat_map (interface_faults (router_of sections) (first_tag (filter_map as_isis sections))) (interfaces_in sections)
    ++ faults_if (is_none (last_of as_hostname sections)) ends NoHostname

-- a fault, so many lines further on
abbrev pub fault_further : ℕ → Fault → Fault
fault_further count f = fault_at (count + f.line) f.kind

-- the faults of a configuration, found on its lines as they are counted from its first one
abbrev pub part_faults : Part → List Fault
part_faults part =
    map (fault_further (first_number part.lines)) (section_faults (sections_in part) (part.ends - first_number part.lines))

-- the faulty lines of a text, each with its kinds
abbrev pub faults_in : List TextLine → List Fault
faults_in lines =
    flat_map part_faults (parts_of lines) ++ faults_if (lacks_end lines) (length lines + 1) NoEnd
