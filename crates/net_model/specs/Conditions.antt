-- What refuses the network of configurations: conditions on its routers, and what holds where none of them does.
use Rattle.std.specs.Prelude.{◌≡◌, ◌≢◌, ℕ, ◌+◌, ◌≤◌, false, if◌then◌else◌, ◌⊎◌, Option, None, Some, is_some, IsTrue, Contains, sum_by}
use Rattle.net_addr.specs.Addresses.{Block}
use Rattle.net_model.specs.Configuration.{Configuration}
use Rattle.net_model.specs.Least.{NoneClash}
use Rattle.net_model.specs.Network.{Network, HasConfiguration, UpInterface, InArea, IsBorderRouter}
use Rattle.net_model.specs.declared.bounds.TheConstants.{MOST_COST, MOST_PATH_METRIC}
use Rattle.net_model.specs.declared.area.Range.{Range}
use Rattle.net_model.specs.declared.area.Stub.{Stub}
use Rattle.net_model.specs.declared.interface.Interface.{Interface}

-- routers u and v have two different up interfaces; those of one router differ in their names
pub record AreTwoInterfaces (net : Network) (u v : ℕ) (i j : Interface) : Type 0 where
  pub one_up : UpInterface net u i
  pub two_up : UpInterface net v j
  pub apart : u ≡ v → i.name ≢ j.name

-- two up interfaces have this address, and they belong to one router or one of them is no loopback
pub record HaveOneAddress (net : Network) (u v address : ℕ) : Type 0 where
  pub one : Interface
  pub two : Interface
  pub interfaces : AreTwoInterfaces net u v one two
  pub one_address : one.address ≡ address
  pub two_address : two.address ≡ address
  pub unshared : (u ≡ v) ⊎ (one.loopback ≡ false) ⊎ (two.loopback ≡ false)

-- two up interfaces of this subnet run OSPF in different areas
pub record RunTwoAreas (net : Network) (u v : ℕ) (dest : Block) : Type 0 where
  pub one : Interface
  pub two : Interface
  pub one_up : UpInterface net u one
  pub two_up : UpInterface net v two
  pub one_subnet : one.subnet ≡ Some dest
  pub two_subnet : two.subnet ≡ Some dest
  pub one_area : ℕ
  pub two_area : ℕ
  pub one_runs : one.area ≡ Some one_area
  pub two_runs : two.area ≡ Some two_area
  pub apart : one_area ≢ two_area

-- a border router has no up interface in the backbone, area 0 (RFC 2328, section 3.3)
pub record LacksBackbone (net : Network) (u : ℕ) : Type 0 where
  pub border : IsBorderRouter net u
  pub outside : InArea net u 0 → ⊥

-- what an interface adds to the sum of OSPF costs: its cost, where it is up and runs OSPF
abbrev pub summed_cost : Interface → ℕ
summed_cost i = if i.up then (if is_some i.area then i.cost else 0) else 0

-- what a range adds: the cost that its line states
abbrev pub stated_cost : Option ℕ → ℕ
stated_cost None = 0
stated_cost (Some cost) = cost

-- what a router adds: the costs of its up OSPF interfaces, of its ranges and of its stub areas' defaults
abbrev pub ospf_costs : Configuration → ℕ
ospf_costs c =
    sum_by summed_cost c.interfaces
    + sum_by (λ (r : Range). stated_cost r.cost) c.ranges
    + sum_by (λ (s : Stub). s.default_cost) c.stubs

-- the sum of all OSPF costs of a network
abbrev pub ospf_cost_sum : Network → ℕ
ospf_cost_sum net = sum_by ospf_costs net

-- what an interface adds to the sum of IS-IS metrics: where it is up, its metric for each level that it runs
abbrev pub isis_metric : Interface → ℕ
isis_metric i =
    if i.up then (if i.level1 then i.metric1 else 0) + (if i.level2 then i.metric2 else 0) else 0

-- the sum of all IS-IS metrics of a network
abbrev pub isis_metric_sum : Network → ℕ
isis_metric_sum net = sum_by (λ (c : Configuration). sum_by isis_metric c.interfaces) net

-- two routers with IS-IS have this system id (RFC 1195)
pub record HaveOneSystem (net : Network) (u v system : ℕ) : Type 0 where
  pub apart : u ≢ v
  pub one : Configuration
  pub two : Configuration
  pub one_router : HasConfiguration net u one
  pub two_router : HasConfiguration net v two
  pub one_runs : IsTrue one.isis
  pub two_runs : IsTrue two.isis
  pub one_system : one.system ≡ system
  pub two_system : two.system ≡ system

-- router u has a stub line for the area
pub record HasStubLine (net : Network) (u area : ℕ) : Type 0 where
  pub config : Configuration
  pub router : HasConfiguration net u config
  pub stub : Stub
  pub among : Contains config.stubs stub
  pub area_is : stub.area ≡ area

-- two routers have up interfaces in one area, and one of them alone has a stub line for it (RFC 2328, section 3.6)
pub record DifferOnStub (net : Network) (u v area : ℕ) : Type 0 where
  pub one_in : InArea net u area
  pub two_in : InArea net v area
  pub differ :
      (HasStubLine net u area × (HasStubLine net v area → ⊥)) ⊎ ((HasStubLine net u area → ⊥) × HasStubLine net v area)

-- no two up interfaces have one address, but for loopbacks of different routers
abbrev pub AddressesDiffer : Network → Type 0
AddressesDiffer net = NoneClash (HaveOneAddress net)

-- no subnet is run in two OSPF areas
abbrev pub AreasAgree : Network → Type 0
AreasAgree net = NoneClash (RunTwoAreas net)

-- each border router has an up interface in the backbone
abbrev pub BordersMeetBackbone : Network → Type 0
BordersMeetBackbone net = (u : ℕ) → LacksBackbone net u → ⊥

-- the sum of all OSPF costs is at most the greatest cost, one below what stands for unreachable (RFC 2328, appendix B)
abbrev pub OspfCostsFit : Network → Type 0
OspfCostsFit net = ospf_cost_sum net ≤ MOST_COST

-- the sum of all IS-IS metrics is at most the greatest metric of a path (RFC 5305, section 3)
abbrev pub IsisMetricsFit : Network → Type 0
IsisMetricsFit net = isis_metric_sum net ≤ MOST_PATH_METRIC

-- no two routers with IS-IS have one system id
abbrev pub SystemsDiffer : Network → Type 0
SystemsDiffer net = NoneClash (HaveOneSystem net)

-- the routers of an area agree on whether it is a stub area
abbrev pub StubsAgree : Network → Type 0
StubsAgree net = NoneClash (DifferOnStub net)

-- a network is consistent: none of these conditions refuses it
pub record IsConsistent (net : Network) : Type 0 where
  pub addresses : AddressesDiffer net
  pub areas : AreasAgree net
  pub borders : BordersMeetBackbone net
  pub ospf_costs : OspfCostsFit net
  pub isis_metrics : IsisMetricsFit net
  pub systems : SystemsDiffer net
  pub stubs : StubsAgree net

-- neither an address nor an area refuses the network
abbrev pub PassesAreas : Network → Type 0
PassesAreas net = AddressesDiffer net × AreasAgree net

-- nor does a border router
abbrev pub PassesBorders : Network → Type 0
PassesBorders net = PassesAreas net × BordersMeetBackbone net

-- nor do the OSPF costs
abbrev pub PassesOspfCosts : Network → Type 0
PassesOspfCosts net = PassesBorders net × OspfCostsFit net

-- nor do the IS-IS metrics
abbrev pub PassesIsisMetrics : Network → Type 0
PassesIsisMetrics net = PassesOspfCosts net × IsisMetricsFit net

-- nor does a system id
abbrev pub PassesSystems : Network → Type 0
PassesSystems net = PassesIsisMetrics net × SystemsDiffer net
