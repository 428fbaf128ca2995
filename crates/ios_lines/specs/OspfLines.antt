-- The lines of `router ospf` that have a meaning, what they say, and why they are faulty.
use Rattle.std.specs.Prelude.{ℕ, ◌+◌, ◌-◌, ◌*◌, ◌/◌, ◌^◌, Bool, true, false, ◌||◌, List, Option, Some, None, Result, Ok, Err, codes, if◌then◌else◌, nat_eq}
use Rattle.std.specs.Prelude.{bytes_eq, not}
use Rattle.net_addr.specs.Addresses.{Block, block_at}
use Rattle.net_model.specs.declared.area.Range.{Range}
use Rattle.ios_lines.specs.Words.{Word, word_at, says, begins_with_two, begins_with_three, lacks, number_from, address_of, mask_of, area_of}
use Rattle.ios_lines.specs.InterfaceLines.{fault_in}
use Rattle.net_model.specs.declared.bounds.TheConstants.{ISIS_DISTANCE, MOST_COST, MOST_DISTANCE}
use Rattle.ios_lines.specs.declared.bounds.TheConstants.{MOST_REFERENCE}
use Rattle.ios_lines.specs.declared.kind.ReadKind.{ReadKind}
use Rattle.ios_lines.specs.declared.kind.ReadKind.TheVariants.{BadAddress, BadMask, BadCost, BadArea, Unsupported, BadDistance, DistanceClash}
use Rattle.ios_lines.specs.declared.ospf_line.NetworkLine.{NetworkLine}
use Rattle.ios_lines.specs.declared.ospf_line.StubLine.{StubLine}
use Rattle.ios_lines.specs.declared.ospf_line.DefaultCost.{DefaultCost as AreaCost}
use Rattle.ios_lines.specs.declared.ospf_line.OspfLine.{OspfLine}
use Rattle.ios_lines.specs.declared.ospf_line.OspfLine.TheVariants.{Network, Passive, PassiveDefault, Reference, Stub, DefaultCost, Range as RangeLine}
use Rattle.ios_lines.specs.declared.ospf_line.OspfLine.TheVariants.{Distance, Rfc1583, Faulty, Skipped}

-- the values of a `network` line
abbrev pub network_values : Option ℕ → Option ℕ → Bool → Option ℕ → Result NetworkLine ReadKind
network_values (Some a) (Some w) true (Some n) = Ok (record { address = a; wildcard = w; area = n })
network_values (Some a) (Some w) true None = Err BadArea
network_values _ _ _ _ = Err BadAddress

-- `network A W area N`
abbrev pub network_line : List Word → Result NetworkLine ReadKind
network_line words = network_values (address_of (word_at words 1)) (address_of (word_at words 2)) (says words 3 (codes "area")) (area_of (word_at words 4))

-- a stub area other than the backbone
abbrev pub stub_values : Option ℕ → Bool → Result StubLine ReadKind
stub_values None _ = Err BadArea
stub_values (Some n) no_summary = if nat_eq n 0 then Err BadArea else Ok (record { area = n; no_summary = no_summary })

-- `area N stub`, `area N stub no-summary`
abbrev pub stub_line : List Word → Result StubLine ReadKind
stub_line words = stub_values (area_of (word_at words 1)) (says words 3 (codes "no-summary"))

-- the default cost of an area; a bad cost is the lesser fault
abbrev pub default_cost_values : Result ℕ ReadKind → Option ℕ → Result AreaCost ReadKind
default_cost_values (Err kind) _ = Err kind
default_cost_values (Ok cost) None = Err BadArea
default_cost_values (Ok cost) (Some n) = Ok (record { area = n; cost = cost })

-- `area N default-cost C`
abbrev pub default_cost_line : List Word → Result AreaCost ReadKind
default_cost_line words = default_cost_values (number_from 0 MOST_COST BadCost (word_at words 3)) (area_of (word_at words 1))

-- the prefix of an address and the length of its mask
abbrev pub prefix_of : ℕ → ℕ → Block
prefix_of a len = block_at (a / 2 ^ (32 - len) * 2 ^ (32 - len)) len

-- `advertise` or `not-advertise` stands after the mask of a range line
abbrev pub tells_advertise : List Word → Bool
tells_advertise words = says words 5 (codes "advertise") || says words 5 (codes "not-advertise")

-- where `cost` may stand on a range line
abbrev pub cost_place : List Word → ℕ
cost_place words = if tells_advertise words then 6 else 5

-- the cost of a range line, where it has one
abbrev pub optional_cost : Result ℕ ReadKind → Result (Option ℕ) ReadKind
optional_cost (Err kind) = Err kind
optional_cost (Ok cost) = Ok (Some cost)

-- `cost C`, or nothing
abbrev pub range_cost : List Word → ℕ → Result (Option ℕ) ReadKind
range_cost words k =
    if says words k (codes "cost") then optional_cost (number_from 0 MOST_COST BadCost (word_at words (k + 1))) else Ok None

-- nothing else stands on a range line
abbrev pub range_ends : List Word → ℕ → Bool
range_ends words k = if says words k (codes "cost") then lacks words (k + 2) else lacks words k

-- the prefix of a range line; a bad address is the lesser fault
abbrev pub range_prefix : Option ℕ → Option ℕ → Result Block ReadKind
range_prefix None _ = Err BadAddress
range_prefix (Some a) None = Err BadMask
range_prefix (Some a) (Some len) = Ok (prefix_of a len)

-- the range of a line with this prefix, cost and area, faults in the order of their kinds
abbrev pub range_values : List Word → Result Block ReadKind → Result (Option ℕ) ReadKind → Option ℕ → Result Range ReadKind
range_values words (Err kind) _ _ = Err kind
range_values words (Ok dest) (Err kind) _ = Err kind
range_values words (Ok dest) (Ok cost) None = Err BadArea
range_values words (Ok dest) (Ok cost) (Some n) =
    if range_ends words (cost_place words)
    then Ok (record { area = n; dest = dest; advertise = not (says words 5 (codes "not-advertise")); cost = cost })
    else Err Unsupported

-- `area N range A M`, then optionally `advertise` or `not-advertise`, then optionally `cost C`
abbrev pub range_line : List Word → Result Range ReadKind
range_line words =
    range_values words (range_prefix (address_of (word_at words 3)) (mask_of (word_at words 4))) (range_cost words (cost_place words))
    (area_of (word_at words 1))

-- what an area can do that isn't supported
abbrev pub is_unsupported_area : Word → Bool
is_unsupported_area word =
    bytes_eq word (codes "nssa") || bytes_eq word (codes "virtual-link") || bytes_eq word (codes "sham-link") || bytes_eq word (codes "filter-list")

-- the lines that begin with `area`
abbrev pub area_line : List Word → OspfLine
area_line words =
    if says words 2 (codes "stub") then Stub (stub_line words) else
    if says words 2 (codes "default-cost") then DefaultCost (default_cost_line words) else
    if says words 2 (codes "range") then RangeLine (range_line words) else
    if is_unsupported_area (word_at words 2) then Faulty Unsupported else
    Skipped

-- a distance of OSPF isn't the one that IS-IS has during a migration
abbrev pub apart_distance : Result ℕ ReadKind → Result ℕ ReadKind
apart_distance (Err kind) = Err kind
apart_distance (Ok n) = if nat_eq n ISIS_DISTANCE then Err DistanceClash else Ok n

-- `distance N`, and nothing else
abbrev pub ospf_distance : List Word → Result ℕ ReadKind
ospf_distance words =
    if says words 1 (codes "ospf") || not (lacks words 2) then Err Unsupported else
    apart_distance (number_from 1 MOST_DISTANCE BadDistance (word_at words 1))

-- `passive-interface NAME`, its name at this place
abbrev pub ospf_passive : List Word → ℕ → Bool → OspfLine
ospf_passive words k passive =
    if lacks words k then Skipped else
    if says words k (codes "default") then PassiveDefault passive else
    Passive (record { name = word_at words k; passive = passive })

-- what isn't supported in `router ospf`
abbrev pub is_unsupported_ospf : Word → Bool
is_unsupported_ospf word =
    bytes_eq word (codes "redistribute") || bytes_eq word (codes "default-information") || bytes_eq word (codes "distribute-list")
    || bytes_eq word (codes "max-metric") || bytes_eq word (codes "summary-address") || bytes_eq word (codes "shutdown")

-- the lines that set a value of the process or take something back
abbrev pub plain_of_ospf : List Word → OspfLine
plain_of_ospf words =
    if begins_with_two words (codes "auto-cost") (codes "reference-bandwidth") then Reference (number_from 1 MOST_REFERENCE BadCost (word_at words 2)) else
    if says words 0 (codes "distance") then Distance (ospf_distance words) else
    if begins_with_two words (codes "compatible") (codes "rfc1583") then Rfc1583 true else
    if begins_with_three words (codes "no") (codes "compatible") (codes "rfc1583") then Rfc1583 false else
    if is_unsupported_ospf (word_at words 0) then Faulty Unsupported else
    Skipped

-- what a line of `router ospf` says
abbrev pub ospf_line : List Word → OspfLine
ospf_line words =
    if says words 0 (codes "network") then Network (network_line words) else
    if says words 0 (codes "area") then area_line words else
    if says words 0 (codes "passive-interface") then ospf_passive words 1 true else
    if begins_with_two words (codes "no") (codes "passive-interface") then ospf_passive words 2 false else
    plain_of_ospf words

-- the fault that a line of `router ospf` has by itself
abbrev pub ospf_line_fault : OspfLine → Option ReadKind
ospf_line_fault (Network r) = fault_in r
ospf_line_fault (Reference r) = fault_in r
ospf_line_fault (Stub r) = fault_in r
ospf_line_fault (DefaultCost r) = fault_in r
ospf_line_fault (RangeLine r) = fault_in r
ospf_line_fault (Distance r) = fault_in r
ospf_line_fault (Faulty kind) = Some kind
ospf_line_fault _ = None
