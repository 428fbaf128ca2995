-- The configurations of a text, or its least faulty line.
pub use Rattle.ios_lines.specs.FaultOrder.{rank}
use Rattle.std.specs.Prelude.{◌≡◌, ℕ, ◌<◌, ◌≤◌, false, true, List, [], Option, Some, None, map, unwrap_or, is_some, All, Contains, ◌⊎◌}
use Rattle.net_model.specs.Configuration.{Configuration}
use Rattle.net_model.specs.declared.bounds.TheConstants.{ISIS_DISTANCE, OSPF_DISTANCE}
use Rattle.net_model.specs.declared.config.Levels.TheVariants.{Both}
use Rattle.net_model.specs.declared.interface.Interface.{Interface}
use Rattle.ios_lines.specs.Words.{Word}
use Rattle.ios_lines.specs.Lookups.{last_of, value_or}
use Rattle.ios_sections.specs.TextLines.{TextLine, parts_of}
use Rattle.ios_sections.specs.Statements.{Statements, statements_of}
use Rattle.ios_reader.specs.Routers.{router_with, title_said, levels_said, ospf_distance_said, isis_distance_said, leak_said, rfc1583_said, ranges_in}
use Rattle.ios_reader.specs.Routers.{stubs_in}
use Rattle.ios_reader.specs.InterfacesAsRead.{interface_as_read}
use Rattle.ios_reader.specs.Faults.{faults_in}
use Rattle.ios_sections.specs.Sections.{sections_in}
use Rattle.ios_lines.specs.declared.fault.Fault.{Fault}
use Rattle.ios_lines.specs.declared.ospf_line.OspfStatement.{OspfStatement}
use Rattle.ios_lines.specs.declared.isis_line.IsisStatement.{IsisStatement}
use Rattle.ios_lines.specs.declared.title.Title.{Title}
use Rattle.ios_reader.specs.declared.settings.OspfSettings.{OspfSettings}
use Rattle.ios_reader.specs.declared.settings.IsisSettings.{IsisSettings}
use Rattle.ios_sections.specs.declared.section.Section.{Section}

-- the title that a `net` line gives
abbrev pub title_given : Option (Option Title) → Option Title
title_given None = None
title_given (Some title) = title

-- the area address and the system id: those of the `net` line
abbrev pub area_in : Option Title → Word
area_in None = []
area_in (Some title) = title.area

-- the system id that a title has
abbrev pub system_in : Option Title → ℕ
system_in None = 0
system_in (Some title) = title.system

-- the title of the last `net` line
abbrev pub title_by : List IsisStatement → Option Title
title_by lines = title_given (last_of (λ (s : IsisStatement). title_said s.says) lines)

-- what the lines of an OSPF process of this number say of a configuration
abbrev pub ospf_settings : Option ℕ → List OspfStatement → OspfSettings
ospf_settings process lines = record {
  process = process;
  ranges = ranges_in lines;
  stubs = stubs_in lines;
  rfc1583 = unwrap_or (last_of (λ (s : OspfStatement). rfc1583_said s.says) lines) true;
  distance = value_or (last_of (λ (s : OspfStatement). ospf_distance_said s.says) lines) OSPF_DISTANCE;
}

-- what the lines of an IS-IS process with this tag say of a configuration
abbrev pub isis_settings : Option Word → List IsisStatement → IsisSettings
isis_settings tag lines = record {
  isis = is_some tag;
  tag = unwrap_or tag [];
  area = area_in (title_by lines);
  system = system_in (title_by lines);
  levels = value_or (last_of (λ (s : IsisStatement). levels_said s.says) lines) Both;
  leak = unwrap_or (last_of (λ (s : IsisStatement). leak_said s.says) lines) false;
  distance = value_or (last_of (λ (s : IsisStatement). isis_distance_said s.says) lines) ISIS_DISTANCE;
}

-- the configuration of a router of this name with these interfaces
abbrev pub configuration_of_settings : Word → List Interface → OspfSettings → IsisSettings → Configuration
configuration_of_settings name interfaces ospf isis = record {
  name = name;
  interfaces = interfaces;
  process = ospf.process;
  isis = isis.isis;
  tag = isis.tag;
  isis_area = isis.area;
  system = isis.system;
  levels = isis.levels;
  leak = isis.leak;
  ranges = ospf.ranges;
  stubs = ospf.stubs;
  rfc1583 = ospf.rfc1583;
  distances = record { ospf = ospf.distance; isis = isis.distance };
}

-- the interfaces, as they are read
abbrev pub interfaces_by : Statements → List Interface
interfaces_by s = map (interface_as_read (router_with s.process s.ospf s.isis)) s.interfaces

-- the configuration, by what its sections say
abbrev pub configuration_by : Statements → Configuration
configuration_by s = configuration_of_settings (unwrap_or s.name []) (interfaces_by s) (ospf_settings s.process s.ospf) (isis_settings s.tag s.isis)

-- the configuration that sections make
abbrev pub configuration_of : List Section → Configuration
configuration_of sections = configuration_by (statements_of sections)

-- the configurations of a text without a faulty line
abbrev pub configurations_in : List TextLine → List Configuration
configurations_in lines = map (λ part. configuration_of (sections_in part)) (parts_of lines)

-- a fault on a lesser line, or on the same line with a kind that isn't greater
abbrev pub IsNotAfter : Fault → Fault → Type 0
IsNotAfter f g = (f.line < g.line) ⊎ ((f.line ≡ g.line) × (rank f.kind ≤ rank g.kind))

-- the least faulty line, and the least kind on it
pub record IsLeastFault (faults : List Fault) (fault : Fault) : Type 0 where
  pub among : Contains faults fault
  pub least : All (IsNotAfter fault) faults

-- the lines have no fault, and make these configurations
pub record AreConfigurations (lines : List TextLine) (configurations : List Configuration) : Type 0 where
  pub faultless : faults_in lines ≡ []
  pub made : configurations ≡ configurations_in lines
