-- Interfaces as read, from their lines and the lines of the two processes.
use Rattle.std.specs.Prelude.{ℕ, ◌*◌, ◌/◌, Bool, false, not, ◌&&◌, ◌||◌, List, Option, Some, None, Result, Ok, Err, min, max, take_while, unwrap_or}
use Rattle.std.specs.Prelude.{option_map, is_some, bytes_eq, nat_eq, codes, if◌then◌else◌}
use Rattle.std.specs.List.{starts_with}
use Rattle.net_addr.specs.Addresses.{Block}
use Rattle.net_model.specs.declared.config.Levels.{Levels}
use Rattle.net_model.specs.declared.config.Levels.TheVariants.{Both}
use Rattle.net_model.specs.LevelSets.{has_level_one, has_level_two}
use Rattle.net_model.specs.declared.bounds.TheConstants.{MOST_INTERFACE_COST}
use Rattle.ios_lines.specs.declared.bounds.TheConstants.{DEFAULT_METRIC}
use Rattle.net_model.specs.declared.interface.Interface.{Interface}
use Rattle.ios_lines.specs.Words.{Word, is_letter}
use Rattle.ios_lines.specs.Lookups.{last_of, first_of, good_value, value_or}
use Rattle.ios_lines.specs.OspfLines.{prefix_of}
use Rattle.ios_reader.specs.InterfaceFacts.{facts_of}
use Rattle.ios_lines.specs.InterfaceLines.{counting}
use Rattle.ios_reader.specs.Routers.{Router, area_taken, ospf_passive_said, isis_passive_said}
use Rattle.ios_lines.specs.declared.kind.ReadKind.{ReadKind}
use Rattle.ios_lines.specs.declared.address.InterfaceAddress.{InterfaceAddress}
use Rattle.ios_lines.specs.declared.interface_line.ProcessArea.{ProcessArea}
use Rattle.ios_lines.specs.declared.ospf_line.OspfStatement.{OspfStatement}
use Rattle.ios_lines.specs.declared.isis_line.IsisStatement.{IsisStatement}
use Rattle.ios_reader.specs.declared.facts.PlacedAddress.{PlacedAddress}
use Rattle.ios_reader.specs.declared.facts.InterfaceFacts.{InterfaceFacts}
use Rattle.ios_sections.specs.declared.section.InterfaceSection.{InterfaceSection}

-- the address that the last address line gives
abbrev pub address_given : Option (Option PlacedAddress) → Option InterfaceAddress
address_given None = None
address_given (Some None) = None
address_given (Some (Some placed)) = good_value (Some placed.address)

-- the interface is a loopback
abbrev pub is_loopback : Word → Bool
is_loopback name = starts_with nat_eq name (codes "Loopback")

-- an interface with an address is up where it isn't shut down
abbrev pub is_up : InterfaceFacts → Bool
is_up facts = is_some (address_given facts.address) && not (unwrap_or facts.shut false)

-- the area of the first network line that takes the address
abbrev pub network_area : List OspfStatement → ℕ → Option ℕ
network_area lines address = first_of (λ (s : OspfStatement). area_taken address s.says) lines

-- the interface's own line names the process of the router
abbrev pub names_process : Option ℕ → ProcessArea → Bool
names_process None said = false
names_process (Some process) said = nat_eq said.process process

-- the area: of the interface's own line, else of the first network line that takes its address; a faulty line of its
-- own, also one of a second process, gives none
abbrev pub area_by : Option ℕ → Option (Result ProcessArea ReadKind) → Option ℕ → Option ℕ
area_by process None by_network = by_network
area_by process (Some (Ok said)) by_network = if names_process process said then Some said.area else None
area_by process (Some (Err _)) by_network = None

-- an interface without an address has no area
abbrev pub area_with : Router → InterfaceFacts → Option InterfaceAddress → Option ℕ
area_with router facts None = None
area_with router facts (Some given) = area_by router.process facts.area (network_area router.ospf given.address)

-- the area of an interface
abbrev pub interface_area : Router → InterfaceFacts → Option ℕ
interface_area router facts = area_with router facts (address_given facts.address)

-- the bandwidth of a kind of interface, in kbit/s
abbrev pub default_bandwidth : Word → Option ℕ
default_bandwidth letters =
    if bytes_eq letters (codes "TenGigabitEthernet") then Some 10000000 else
    if bytes_eq letters (codes "GigabitEthernet") then Some 1000000 else
    if bytes_eq letters (codes "FastEthernet") then Some 100000 else
    if bytes_eq letters (codes "Ethernet") then Some 10000 else
    if bytes_eq letters (codes "Serial") then Some 1544 else
    None

-- the cost of a bandwidth in kbit/s, by a reference in Mbit/s: rounded down, from 1 to the greatest cost of an interface
abbrev pub cost_of_bandwidth : ℕ → ℕ → ℕ
cost_of_bandwidth reference bandwidth = min MOST_INTERFACE_COST (max 1 (reference * 1000 / bandwidth))

-- a bandwidth by the interface's own line, else by its kind; a faulty line gives the cost 1
abbrev pub cost_by_bandwidth : ℕ → Option (Result ℕ ReadKind) → Option ℕ → Option ℕ
cost_by_bandwidth reference (Some (Ok bandwidth)) kind = Some (cost_of_bandwidth reference bandwidth)
cost_by_bandwidth reference (Some (Err _)) kind = Some 1
cost_by_bandwidth reference None kind = option_map (cost_of_bandwidth reference) kind

-- the cost without a cost line: 1 on a loopback, else by a bandwidth
abbrev pub default_cost : ℕ → Word → Option (Result ℕ ReadKind) → Option ℕ
default_cost reference name bandwidth =
    if is_loopback name then Some 1
    else cost_by_bandwidth reference bandwidth (default_bandwidth (take_while is_letter name))

-- the cost that the lines give, where they give one; a faulty line gives the cost 1
abbrev pub cost_given : Option (Result ℕ ReadKind) → Option ℕ → Option ℕ
cost_given (Some (Ok cost)) otherwise = Some cost
cost_given (Some (Err _)) otherwise = Some 1
cost_given None otherwise = otherwise

-- the cost of an interface: by its cost line, else its default
abbrev pub ospf_cost : Router → Word → InterfaceFacts → Option ℕ
ospf_cost router name facts = cost_given facts.cost (default_cost router.reference name facts.bandwidth)

-- whether the interface is passive for IS-IS
abbrev pub is_isis_passive : Router → Word → Bool
is_isis_passive router name = unwrap_or (last_of (λ (s : IsisStatement). isis_passive_said name s.says) router.isis) false

-- whether the interface is passive for OSPF: by the last line that names it, else by the default
abbrev pub is_ospf_passive : Router → Word → Bool
is_ospf_passive router name =
    unwrap_or (last_of (λ (s : OspfStatement). ospf_passive_said name s.says) router.ospf) router.passive_default

-- whether an interface that is passive or not runs IS-IS: by its own line, or since it is passive
abbrev pub runs_isis : Bool → InterfaceFacts → Bool
runs_isis passive facts = passive || is_some facts.isis

-- whether it runs a level: one of its router's that its circuit type has too, unless it is passive
abbrev pub runs_level : (Levels → Bool) → Levels → Bool → InterfaceFacts → Bool
runs_level has levels passive facts = runs_isis passive facts && has levels && (passive || has (value_or facts.circuit Both))

-- the metric of a level: by a line with the level, else by one without, else the router's
abbrev pub metric_by : Option ℕ → Option ℕ → ℕ → ℕ
metric_by (Some metric) both router = metric
metric_by None both router = unwrap_or both router

-- an interface that runs no IS-IS has the default metric
abbrev pub level_metric : ℕ → Bool → InterfaceFacts → Option (Result ℕ ReadKind) → ℕ
level_metric router passive facts own =
    if runs_isis passive facts then metric_by (good_value own) (good_value facts.metric) router else DEFAULT_METRIC

-- the address field: 0 where there is none
abbrev pub address_field : Option InterfaceAddress → ℕ
address_field None = 0
address_field (Some given) = given.address

-- the subnet field: none where there is no address
abbrev pub subnet_field : Option InterfaceAddress → Option Block
subnet_field None = None
subnet_field (Some given) = Some (prefix_of given.address given.len)

-- an interface without an area has the cost 1
abbrev pub cost_field : Option ℕ → Option ℕ → ℕ
cost_field None cost = 1
cost_field (Some _) cost = unwrap_or cost 1

-- an interface as read from what its lines say
abbrev pub interface_with : Router → Word → InterfaceFacts → Interface
interface_with router name facts = record {
  name = name;
  address = address_field (address_given facts.address);
  subnet = subnet_field (address_given facts.address);
  up = is_up facts;
  loopback = is_loopback name;
  area = interface_area router facts;
  cost = cost_field (interface_area router facts) (ospf_cost router name facts);
  ospf_passive = is_ospf_passive router name;
  level1 = runs_level has_level_one router.levels (is_isis_passive router name) facts;
  level2 = runs_level has_level_two router.levels (is_isis_passive router name) facts;
  metric1 = level_metric router.metric (is_isis_passive router name) facts facts.metric1;
  metric2 = level_metric router.metric (is_isis_passive router name) facts facts.metric2;
  isis_passive = is_isis_passive router name;
}

-- an interface as read
abbrev pub interface_as_read : Router → InterfaceSection → Interface
interface_as_read router section = interface_with router section.name (facts_of (counting section.lines))
