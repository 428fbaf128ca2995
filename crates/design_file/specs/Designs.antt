-- What a document says as a design.
use Rattle.std.specs.Prelude.{◌≡◌, ◌≤◌, List, [], ◌∷◌, Some, false, All, AllPairs, IfSome, IsTrue, codes, unwrap_or, ℕ}
use Rattle.ios_lines.specs.declared.bounds.TheConstants.{DEFAULT_METRIC}
use Rattle.net_model.specs.Refusals.{IsBelow}
use Rattle.net_model.specs.declared.bounds.TheConstants.{MOST_METRIC}
use Rattle.net_model.specs.declared.config.Levels.TheVariants.{Two}
use Rattle.toml.specs.Data.{Data, Members, no_members, member}
use Rattle.design_file.specs.Documents.{said_at, entries_at, entries_of}
use Rattle.ios_lines.specs.Words.{Word}
use Rattle.design_file.specs.Values.{as_area, as_levels, as_metric, as_flag, is_area}
use Rattle.design_file.specs.declared.design.Design.{Design}
use Rattle.design_file.specs.declared.design.DesignRouter.{DesignRouter}
use Rattle.design_file.specs.declared.design.DesignInterface.{DesignInterface}

-- what each entry says, by its key and its value
abbrev pub each_said : {X : Type 0} → (Word → Data → X) → Members → List X
each_said says no_members = []
each_said says (member key value more) = says key value ∷ each_said says more

-- what the table of an interface says
abbrev pub interface_said : Word → Members → DesignInterface
interface_said name entries = record {
  name = name;
  metric = said_at as_metric (codes "metric") entries;
  levels = said_at as_levels (codes "level") entries;
  passive = said_at as_flag (codes "passive") entries;
}

-- what the tables of the interfaces say, in the order of their names
abbrev pub interfaces_said : Members → List DesignInterface
interfaces_said members = each_said (λ name value. interface_said name (entries_of (Some value))) members

-- what the table of a router says
abbrev pub router_said : Word → Members → DesignRouter
router_said name entries = record {
  name = name;
  area = said_at as_area (codes "area") entries;
  levels = said_at as_levels (codes "level") entries;
  metric = said_at as_metric (codes "metric") entries;
  leak = unwrap_or (said_at as_flag (codes "leak") entries) false;
  interfaces = interfaces_said (entries_at (codes "interfaces") entries);
}

-- what the tables of the routers say, in the order of their names
abbrev pub routers_said : Members → List DesignRouter
routers_said members = each_said (λ name value. router_said name (entries_of (Some value))) members

-- the design that a document is
pub record IsDesign (document : Members) (design : Design) : Type 0 where
  pub area : said_at as_area (codes "area") document ≡ Some design.area
  pub levels : design.levels ≡ unwrap_or (said_at as_levels (codes "level") document) Two
  pub metric : design.metric ≡ unwrap_or (said_at as_metric (codes "metric") document) DEFAULT_METRIC
  pub routers : design.routers ≡ routers_said (entries_at (codes "routers") document)

-- a metric is in its range
abbrev pub IsMetric : ℕ → Type 0
IsMetric metric = (1 ≤ metric) × (metric ≤ MOST_METRIC)

-- what is said of a router is by its grammar
pub record IsRouterSound (router : DesignRouter) : Type 0 where
  pub area : IfSome router.area (λ area. IsTrue (is_area area))
  pub metric : IfSome router.metric IsMetric
  pub interfaces : All (λ (i : DesignInterface). IfSome i.metric IsMetric) router.interfaces

-- a design's areas and metrics are by their grammar
pub record IsSoundDesign (design : Design) : Type 0 where
  pub area : IsTrue (is_area design.area)
  pub metric : IsMetric design.metric
  pub routers : All IsRouterSound design.routers

-- names ascend in byte order
abbrev pub InterfacesAscend : List DesignInterface → Type 0
InterfacesAscend interfaces = AllPairs (λ (i j : DesignInterface). IsBelow i.name j.name) interfaces

abbrev pub RoutersAscend : List DesignRouter → Type 0
RoutersAscend routers = AllPairs (λ (r s : DesignRouter). IsBelow r.name s.name) routers

-- the routers that a design names, and the interfaces of each, stand in byte order of their names, each once
pub record AreInOrder (routers : List DesignRouter) : Type 0 where
  pub ascending : RoutersAscend routers
  pub interfaces : All (λ (r : DesignRouter). InterfacesAscend r.interfaces) routers
