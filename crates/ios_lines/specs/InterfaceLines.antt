-- The lines of an interface that have a meaning, what they say, and why they are faulty.
use Rattle.std.specs.Prelude.{ℕ, Bool, true, false, ◌&&◌, ◌||◌, List, Option, Some, None, Result, Ok, Err, codes, if◌then◌else◌, slice_index, bytes_eq, []}
use Rattle.std.specs.Char.{is_ascii_digit}
use Rattle.ios_lines.specs.Words.{Word, word_at, says, begins_with_two, begins_with_three, lacks, number_from, address_of, mask_of, area_of, levels_of}
use Rattle.net_model.specs.declared.bounds.TheConstants.{MOST_INTERFACE_COST, MOST_METRIC, MOST_PROCESS}
use Rattle.ios_lines.specs.declared.bounds.TheConstants.{MOST_BANDWIDTH}
use Rattle.ios_lines.specs.declared.kind.ReadKind.{ReadKind}
use Rattle.ios_lines.specs.declared.kind.ReadKind.TheVariants.{BadAddress, BadMask, BadCost, BadArea, SecondProcess, Unsupported, BadLevel, BadMetric}
use Rattle.ios_lines.specs.declared.kind.ReadKind.TheVariants.{NoBandwidth}
use Rattle.ios_lines.specs.declared.address.InterfaceAddress.{InterfaceAddress}
use Rattle.ios_lines.specs.declared.interface_line.ProcessArea.{ProcessArea}
use Rattle.ios_lines.specs.declared.interface_line.InterfaceLine.{InterfaceLine}
use Rattle.ios_lines.specs.declared.interface_line.InterfaceLine.TheVariants.{Address, NoAddress, Shutdown, Vrf, Bandwidth, Cost, Area, PointToPoint, Isis}
use Rattle.ios_lines.specs.declared.interface_line.InterfaceLine.TheVariants.{Circuit, Metric, Metric1, Metric2, Faulty, Skipped}
use Rattle.std.specs.List.{list_any}
use Rattle.ios_lines.specs.declared.interface_line.InterfaceStatement.{InterfaceStatement}

-- an address with the length of its mask, of which a secondary one is not supported
abbrev pub masked_address : Option ℕ → Option ℕ → Bool → Result InterfaceAddress ReadKind
masked_address None _ _ = Err BadAddress
masked_address (Some a) None _ = Err BadMask
masked_address (Some a) (Some len) secondary =
    if secondary then Err Unsupported else Ok (record { address = a; len = len })

-- `ip address A M`, without `secondary`, `dhcp` or `negotiated`
abbrev pub address_line : List Word → Result InterfaceAddress ReadKind
address_line words =
    if says words 2 (codes "dhcp") || says words 2 (codes "negotiated") then Err Unsupported else
    masked_address (address_of (word_at words 2)) (mask_of (word_at words 3)) (says words 4 (codes "secondary"))

-- an area of a process; a bad area is the lesser fault
abbrev pub process_area : Option ℕ → Result ℕ ReadKind → Result ProcessArea ReadKind
process_area None _ = Err BadArea
process_area (Some area) (Err kind) = Err kind
process_area (Some area) (Ok process) = Ok (record { process = process; area = area })

-- `ip ospf P area N`
abbrev pub area_line : List Word → Result ProcessArea ReadKind
area_line words = process_area (area_of (word_at words 4)) (number_from 1 MOST_PROCESS SecondProcess (word_at words 2))

-- `ip ospf network K`: whether K is `point-to-point`
abbrev pub network_kind : Word → Result Bool ReadKind
network_kind word =
    if bytes_eq word (codes "point-to-point") then Ok true else
    if bytes_eq word (codes "broadcast") then Ok false else
    Err Unsupported

-- `ip ospf cost N`, `ip ospf network K` and `ip ospf P area N`
abbrev pub ospf_of_interface : List Word → InterfaceLine
ospf_of_interface words =
    if says words 2 (codes "cost") then Cost (number_from 1 MOST_INTERFACE_COST BadCost (word_at words 3)) else
    if says words 2 (codes "network") then PointToPoint (network_kind (word_at words 3)) else
    if says words 3 (codes "area") then Area (area_line words) else
    Skipped

-- the lines that begin with `ip`
abbrev pub ip_of_interface : List Word → InterfaceLine
ip_of_interface words =
    if says words 1 (codes "address") then Address (address_line words) else
    if says words 1 (codes "unnumbered") then Faulty Unsupported else
    if says words 1 (codes "ospf") then ospf_of_interface words else
    if says words 1 (codes "vrf") && says words 2 (codes "forwarding") then Vrf else
    if says words 1 (codes "router") && says words 2 (codes "isis") then Isis (word_at words 3) else
    Skipped

-- `isis metric N`, with a level or without; a bad level is the lesser fault
abbrev pub metric_line : List Word → InterfaceLine
metric_line words =
    if lacks words 3 then Metric (number_from 1 MOST_METRIC BadMetric (word_at words 2)) else
    if says words 3 (codes "level-1") then Metric1 (number_from 1 MOST_METRIC BadMetric (word_at words 2)) else
    if says words 3 (codes "level-2") then Metric2 (number_from 1 MOST_METRIC BadMetric (word_at words 2)) else
    Faulty BadLevel

-- the lines that begin with `isis`
abbrev pub isis_of_interface : List Word → InterfaceLine
isis_of_interface words =
    if says words 1 (codes "circuit-type") then Circuit (levels_of (word_at words 2)) else
    if says words 1 (codes "metric") then metric_line words else
    Skipped

-- `bandwidth N`, where N begins with a digit
abbrev pub bandwidth_line : Word → InterfaceLine
bandwidth_line word =
    if is_ascii_digit (slice_index word 0) then Bandwidth (number_from 1 MOST_BANDWIDTH NoBandwidth word) else Skipped

-- the other lines of an interface
abbrev pub plain_of_interface : List Word → InterfaceLine
plain_of_interface words =
    if says words 0 (codes "bandwidth") then bandwidth_line (word_at words 1) else
    if says words 0 (codes "shutdown") then Shutdown true else
    if begins_with_two words (codes "no") (codes "shutdown") then Shutdown false else
    if begins_with_three words (codes "no") (codes "ip") (codes "address") then NoAddress else
    if begins_with_two words (codes "vrf") (codes "forwarding") then Vrf else
    Skipped

-- what a line of an interface says
abbrev pub interface_line : List Word → InterfaceLine
interface_line words =
    if says words 0 (codes "ip") then ip_of_interface words else
    if says words 0 (codes "isis") then isis_of_interface words else
    plain_of_interface words

-- the fault of a value that isn't there
abbrev pub fault_in : {A : Type 0} → Result A ReadKind → Option ReadKind
fault_in (Ok _) = None
fault_in (Err kind) = Some kind

-- the fault that an interface line has by itself
abbrev pub interface_line_fault : InterfaceLine → Option ReadKind
interface_line_fault (Address r) = fault_in r
interface_line_fault (Bandwidth r) = fault_in r
interface_line_fault (Cost r) = fault_in r
interface_line_fault (Area r) = fault_in r
interface_line_fault (PointToPoint r) = fault_in r
interface_line_fault (Circuit r) = fault_in r
interface_line_fault (Metric r) = fault_in r
interface_line_fault (Metric1 r) = fault_in r
interface_line_fault (Metric2 r) = fault_in r
interface_line_fault (Faulty kind) = Some kind
interface_line_fault _ = None

-- a line that puts the interface into a VRF
abbrev pub is_vrf : InterfaceLine → Bool
is_vrf Vrf = true
is_vrf _ = false

-- whether an interface is in a VRF
abbrev pub in_vrf : List InterfaceStatement → Bool
in_vrf lines = list_any (λ s. is_vrf s.says) lines

-- the lines of an interface that count: none where it is in a VRF
abbrev pub counting : List InterfaceStatement → List InterfaceStatement
counting lines = if in_vrf lines then [] else lines
