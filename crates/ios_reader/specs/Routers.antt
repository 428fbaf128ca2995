-- What the lines of the two processes say of a router.
use Rattle.std.specs.Prelude.{ℕ, Bool, true, false, ◌&&◌, List, [], Option, Some, None, Result, Ok, map, filter_map, fold, unwrap_or, bytes_eq, nat_eq}
use Rattle.std.specs.Prelude.{bit_or, if◌then◌else◌}
use Rattle.net_model.specs.declared.area.Range.{Range}
use Rattle.net_model.specs.declared.area.Stub.{Stub}
use Rattle.net_model.specs.declared.config.Levels.{Levels}
use Rattle.net_model.specs.declared.config.Levels.TheVariants.{Both}
use Rattle.ios_lines.specs.declared.bounds.TheConstants.{DEFAULT_METRIC, DEFAULT_REFERENCE}
use Rattle.ios_lines.specs.Words.{Word}
use Rattle.ios_lines.specs.Lookups.{last_of, replaced, value_or}
use Rattle.ios_lines.specs.declared.kind.ReadKind.{ReadKind}
use Rattle.ios_lines.specs.declared.ospf_line.StubLine.{StubLine}
use Rattle.ios_lines.specs.declared.ospf_line.PassiveLine.{PassiveLine}
use Rattle.ios_lines.specs.declared.ospf_line.OspfLine.{OspfLine}
use Rattle.ios_lines.specs.declared.ospf_line.OspfLine.TheVariants.{Network, Passive as OspfPassive, PassiveDefault, Reference, Stub as StubSaid, DefaultCost}
use Rattle.ios_lines.specs.declared.ospf_line.OspfLine.TheVariants.{Range as RangeSaid, Distance as OspfDistance, Rfc1583}
use Rattle.ios_lines.specs.declared.ospf_line.OspfStatement.{OspfStatement}
use Rattle.ios_lines.specs.declared.title.Title.{Title}
use Rattle.ios_lines.specs.declared.isis_line.IsisLine.{IsisLine}
use Rattle.ios_lines.specs.declared.isis_line.IsisLine.TheVariants.{Net, Levels as LevelsSaid, Metric as IsisMetric, Distance as IsisDistance}
use Rattle.ios_lines.specs.declared.isis_line.IsisLine.TheVariants.{Passive as IsisPassive, Leak}
use Rattle.ios_lines.specs.declared.isis_line.IsisStatement.{IsisStatement}
use Rattle.ios_sections.specs.declared.section.Section.{Section}
use Rattle.ios_sections.specs.Processes.{process_of, ospf_lines, isis_lines}

-- ---- the OSPF process ----

-- the area of a line `network A W area N`, where it takes the address: it agrees with A outside the bits of W
abbrev pub area_taken : ℕ → OspfLine → Option ℕ
area_taken address (Network (Ok network)) =
    if nat_eq (bit_or address network.wildcard) (bit_or network.address network.wildcard) then Some network.area else None
area_taken address _ = None

-- whether a line names this interface, and makes it passive
abbrev pub passive_if_named : Word → PassiveLine → Option Bool
passive_if_named name said = if bytes_eq said.name name then Some said.passive else None

-- `passive-interface NAME`, or with `no`, of an OSPF process
abbrev pub ospf_passive_said : Word → OspfLine → Option Bool
ospf_passive_said name (OspfPassive said) = passive_if_named name said
ospf_passive_said name _ = None

-- `passive-interface default`, or with `no`
abbrev pub passive_default_said : OspfLine → Option Bool
passive_default_said (PassiveDefault passive) = Some passive
passive_default_said _ = None

-- `auto-cost reference-bandwidth N`
abbrev pub reference_said : OspfLine → Option (Result ℕ ReadKind)
reference_said (Reference r) = Some r
reference_said _ = None

-- `distance N` of an OSPF process
abbrev pub ospf_distance_said : OspfLine → Option (Result ℕ ReadKind)
ospf_distance_said (OspfDistance r) = Some r
ospf_distance_said _ = None

-- `compatible rfc1583`, or with `no`
abbrev pub rfc1583_said : OspfLine → Option Bool
rfc1583_said (Rfc1583 compatible) = Some compatible
rfc1583_said _ = None

-- `area N range A M` and what follows
abbrev pub range_said : OspfLine → Option Range
range_said (RangeSaid (Ok range)) = Some range
range_said _ = None

-- `area N stub`, or with `no-summary`
abbrev pub stub_said : OspfLine → Option StubLine
stub_said (StubSaid (Ok stub)) = Some stub
stub_said _ = None

-- a default cost of this area
abbrev pub cost_if : Bool → ℕ → Option ℕ
cost_if true cost = Some cost
cost_if false cost = None

-- `area N default-cost C`, for this area
abbrev pub default_cost_said : ℕ → OspfLine → Option ℕ
default_cost_said area (DefaultCost (Ok said)) = cost_if (nat_eq said.area area) said.cost
default_cost_said area _ = None

-- two ranges of one area and one prefix
abbrev pub is_same_range : Range → Range → Bool
is_same_range r s = nat_eq r.area s.area && nat_eq r.dest.base s.dest.base && nat_eq r.dest.len s.dest.len

-- the ranges: a range line replaces the earlier one for the same area and prefix
abbrev pub ranges_in : List OspfStatement → List Range
ranges_in lines = fold (replaced is_same_range) [] (filter_map (λ (s : OspfStatement). range_said s.says) lines)

-- two stub lines for one area
abbrev pub is_same_area : StubLine → StubLine → Bool
is_same_area s t = nat_eq s.area t.area

-- the stub areas: a stub line replaces the earlier one for the same area
abbrev pub stub_lines_in : List OspfStatement → List StubLine
stub_lines_in lines = fold (replaced is_same_area) [] (filter_map (λ (s : OspfStatement). stub_said s.says) lines)

-- a stub area, with the last default cost of its area, or 1
abbrev pub stub_of : List OspfStatement → StubLine → Stub
stub_of lines stub = record {
  area = stub.area;
  no_summary = stub.no_summary;
  default_cost = unwrap_or (last_of (λ (s : OspfStatement). default_cost_said stub.area s.says) lines) 1;
}

-- the stub areas, each with its default cost
abbrev pub stubs_in : List OspfStatement → List Stub
stubs_in lines = map (stub_of lines) (stub_lines_in lines)

-- ---- the IS-IS process ----

-- `net X`
abbrev pub title_said : IsisLine → Option (Option Title)
title_said (Net title) = Some title
title_said _ = None

-- `is-type L`
abbrev pub levels_said : IsisLine → Option (Result Levels ReadKind)
levels_said (LevelsSaid r) = Some r
levels_said _ = None

-- `metric N`
abbrev pub router_metric_said : IsisLine → Option (Result ℕ ReadKind)
router_metric_said (IsisMetric r) = Some r
router_metric_said _ = None

-- `distance N` of an IS-IS process
abbrev pub isis_distance_said : IsisLine → Option (Result ℕ ReadKind)
isis_distance_said (IsisDistance r) = Some r
isis_distance_said _ = None

-- `passive-interface NAME`, or with `no`, of an IS-IS process
abbrev pub isis_passive_said : Word → IsisLine → Option Bool
isis_passive_said name (IsisPassive said) = passive_if_named name said
isis_passive_said name _ = None

-- `redistribute isis ip level-2 into level-1`
abbrev pub leak_said : IsisLine → Option Bool
leak_said Leak = Some true
leak_said _ = None

-- ---- what the interfaces are read by ----

-- what the two processes say that concerns the interfaces
pub record Router : Type 0 where
  pub process : Option ℕ
  pub ospf : List OspfStatement
  pub isis : List IsisStatement
  pub passive_default : Bool
  pub reference : ℕ
  pub levels : Levels
  pub metric : ℕ

-- a router by the number of its OSPF process, and the lines of its two processes
abbrev pub router_with : Option ℕ → List OspfStatement → List IsisStatement → Router
router_with process ospf isis = record {
  process = process;
  ospf = ospf;
  isis = isis;
  passive_default = unwrap_or (last_of (λ (s : OspfStatement). passive_default_said s.says) ospf) false;
  reference = value_or (last_of (λ (s : OspfStatement). reference_said s.says) ospf) DEFAULT_REFERENCE;
  levels = value_or (last_of (λ (s : IsisStatement). levels_said s.says) isis) Both;
  metric = value_or (last_of (λ (s : IsisStatement). router_metric_said s.says) isis) DEFAULT_METRIC;
}

-- a router by its sections
abbrev pub router_of : List Section → Router
router_of sections = router_with (process_of sections) (ospf_lines sections) (isis_lines sections)
