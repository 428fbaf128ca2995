-- What a design settles for the routers of a network.
use Rattle.std.specs.Prelude.{◌≡◌, ◌⊎◌, ◌&&◌, ◌||◌, List, [], ◌∷◌, Option, Some, None}
use Rattle.std.specs.Prelude.{Bool, false, ℕ, IsSome, IsTrue, bytes_eq, find, if◌then◌else◌, is_some, map, unwrap_or}
use Rattle.std.specs.List.{AllZip}
use Rattle.net_model.specs.Configuration.{Configuration}
use Rattle.net_model.specs.Network.{Network}
use Rattle.net_model.specs.declared.config.Levels.{Levels}
use Rattle.net_model.specs.declared.interface.Interface.{Interface}
use Rattle.design_file.specs.Designs.{IsMetric}
use Rattle.ios_lines.specs.Words.{Word}
use Rattle.design_file.specs.Values.{is_area}
use Rattle.design_file.specs.declared.design.Design.{Design}
use Rattle.design_file.specs.declared.design.DesignRouter.{DesignRouter}
use Rattle.design_file.specs.declared.design.DesignInterface.{DesignInterface}
use Rattle.design_file.specs.declared.settled.SettledRouter.{SettledRouter}
use Rattle.design_file.specs.declared.settled.SettledInterface.{SettledInterface}

-- ---- what is said of a router or an interface by its name ----

abbrev pub router_named : Word → List DesignRouter → Option DesignRouter
router_named name routers = find (λ (r : DesignRouter). bytes_eq r.name name) routers

abbrev pub interface_named : Word → List DesignInterface → Option DesignInterface
interface_named name interfaces = find (λ (i : DesignInterface). bytes_eq i.name name) interfaces

-- ---- what holds for a router: what is said of it, else what is said of all ----

abbrev pub area_for : Design → Option DesignRouter → Word
area_for design None = design.area
area_for design (Some own) = unwrap_or own.area design.area

abbrev pub levels_for : Design → Option DesignRouter → Levels
levels_for design None = design.levels
levels_for design (Some own) = unwrap_or own.levels design.levels

abbrev pub metric_for : Design → Option DesignRouter → ℕ
metric_for design None = design.metric
metric_for design (Some own) = unwrap_or own.metric design.metric

abbrev pub leak_for : Option DesignRouter → Bool
leak_for None = false
leak_for (Some own) = own.leak

-- the interfaces of which something is said
abbrev pub named_for : Option DesignRouter → List DesignInterface
named_for None = []
named_for (Some own) = own.interfaces

-- ---- what holds for an interface ----

-- an IS-IS interface is one with an address that has an OSPF area or that the design names
abbrev pub is_isis_interface : Interface → Option DesignInterface → Bool
is_isis_interface interface own = is_some interface.subnet && (is_some interface.area || is_some own)

-- its metric, else that of the router
abbrev pub interface_metric : ℕ → Option DesignInterface → ℕ
interface_metric metric None = metric
interface_metric metric (Some own) = unwrap_or own.metric metric

-- it is passive where the design says so, and where that says nothing if it is a loopback or passive for OSPF
abbrev pub interface_passive : Interface → Option DesignInterface → Bool
interface_passive interface None = interface.loopback || interface.ospf_passive
interface_passive interface (Some own) = unwrap_or own.passive (interface.loopback || interface.ospf_passive)

-- the levels that are said of it
abbrev pub interface_circuit : Option DesignInterface → Option Levels
interface_circuit None = None
interface_circuit (Some own) = own.levels

abbrev pub settled_interface : ℕ → Interface → Option DesignInterface → SettledInterface
settled_interface metric interface own = record {
  name = interface.name;
  metric = interface_metric metric own;
  passive = interface_passive interface own;
  circuit = interface_circuit own;
}

-- the IS-IS interface that an interface is, before some others
abbrev pub before_others : ℕ → Interface → Option DesignInterface → List SettledInterface → List SettledInterface
before_others metric interface own others = if is_isis_interface interface own then settled_interface metric interface own ∷ others else others

-- the IS-IS interfaces of a router, in the order of its configuration
abbrev pub settled_interfaces : ℕ → List DesignInterface → List Interface → List SettledInterface
settled_interfaces metric named [] = []
settled_interfaces metric named (interface ∷ more) =
    before_others metric interface (interface_named interface.name named) (settled_interfaces metric named more)

-- what is settled for a router of which this is said
abbrev pub settled_router : Design → Option DesignRouter → Configuration → SettledRouter
settled_router design own config = record {
  area = area_for design own;
  levels = levels_for design own;
  leak = leak_for own;
  interfaces = settled_interfaces (metric_for design own) (named_for own) config.interfaces;
}

-- what is settled for the routers of a network, in the order of their numbers
abbrev pub settled_routers : Design → Network → List SettledRouter
settled_routers design net = map (λ (config : Configuration). settled_router design (router_named config.name design.routers) config) net

-- ---- what fits a network ----

-- it is settled for an interface with an address, and its metric is in its range
pub record IsFor (interface : Interface) (settled : SettledInterface) : Type 0 where
  pub name : interface.name ≡ settled.name
  pub address : IsSome interface.subnet
  pub metric : IsMetric settled.metric

-- these are settled for some of the interfaces, in their order and each once
abbrev pub AreForSome : List Interface → List SettledInterface → Type 0
AreForSome interfaces [] = Unit {0}
AreForSome [] (settled ∷ more) = ⊥
AreForSome (interface ∷ others) (settled ∷ more) = (IsFor interface settled × AreForSome others more) ⊎ AreForSome others (settled ∷ more)

-- it can be settled for a router, which has no IS-IS process yet
pub record FitsRouter (config : Configuration) (settled : SettledRouter) : Type 0 where
  pub no_isis : config.isis ≡ false
  pub area : IsTrue (is_area settled.area)
  pub interfaces : AreForSome config.interfaces settled.interfaces

-- it is settled for a network: one entry for each router, in the order of their numbers
abbrev pub FitsNetwork : Network → List SettledRouter → Type 0
FitsNetwork net settled = AllZip FitsRouter net settled
