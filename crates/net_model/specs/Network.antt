-- The network that configurations make: connected prefixes, border routers, adjacency in a zone.
use Rattle.std.specs.Prelude.{◌≡◌, ◌≢◌, ℕ, false, List, Some, IsTrue, slice_get, Contains}
use Rattle.net_addr.specs.Addresses.{Block}
use Rattle.net_model.specs.Configuration.{Configuration}
use Rattle.net_model.specs.declared.interface.Interface.{Interface}
use Rattle.net_model.specs.declared.zone.Zone.{Zone}
use Rattle.net_model.specs.declared.zone.Zone.TheVariants.{Area, One, Two}

-- a network is the configurations of its routers, which are numbered from 0 in this order
abbrev pub Network : Type 0
Network = List Configuration

-- router u has this configuration
abbrev pub HasConfiguration : Network → ℕ → Configuration → Type 0
HasConfiguration net u c = slice_get net u ≡ Some c

-- router u has the interface i, and i is up
pub record UpInterface (net : Network) (u : ℕ) (i : Interface) : Type 0 where
  pub config : Configuration
  pub router : HasConfiguration net u config
  pub among : Contains config.interfaces i
  pub up : IsTrue i.up

-- router u has an up interface whose subnet is p, whatever that interface runs
pub record Connected (net : Network) (u : ℕ) (p : Block) : Type 0 where
  pub interface : Interface
  pub up : UpInterface net u interface
  pub subnet : interface.subnet ≡ Some p

-- the interface is up and runs OSPF in the area
pub record RunsArea (area : ℕ) (i : Interface) : Type 0 where
  pub up : IsTrue i.up
  pub area_is : i.area ≡ Some area

-- router u has an up interface that runs OSPF in area n
pub record InArea (net : Network) (u n : ℕ) : Type 0 where
  pub interface : Interface
  pub up : UpInterface net u interface
  pub area : interface.area ≡ Some n

-- a border router has up interfaces in two or more areas (RFC 2328, section 3.3)
pub record IsBorderRouter (net : Network) (u : ℕ) : Type 0 where
  pub one : ℕ
  pub other : ℕ
  pub apart : one ≢ other
  pub in_one : InArea net u one
  pub in_other : InArea net u other

-- an interface forms adjacencies in a zone: it runs in the zone, and isn't passive there
abbrev pub RunsIn : Zone → Interface → Type 0
RunsIn (Area n) i = (i.area ≡ Some n) × (i.ospf_passive ≡ false)
RunsIn One i = IsTrue i.level1 × (i.isis_passive ≡ false)
RunsIn Two i = IsTrue i.level2 × (i.isis_passive ≡ false)

-- what it costs to send on an interface, in a zone
abbrev pub cost_in : Zone → Interface → ℕ
cost_in (Area _) i = i.cost
cost_in One i = i.metric1
cost_in Two i = i.metric2

-- level 1 joins routers of one IS-IS area alone
abbrev pub MayJoin : Zone → Configuration → Configuration → Type 0
MayJoin (Area _) _ _ = Unit {0}
MayJoin One c d = c.isis_area ≡ d.isis_area
MayJoin Two _ _ = Unit {0}

-- two routers are adjacent in a zone, the first sending at this cost: both have an up interface of
-- one subnet, neither a loopback, that forms adjacencies there (RFC 2328, section 16.1; RFC 1195)
pub record Adjacent (net : Network) (zone : Zone) (u v cost : ℕ) : Type 0 where
  pub apart : u ≢ v
  pub subnet : Block
  pub near : Interface
  pub far : Interface
  pub near_up : UpInterface net u near
  pub far_up : UpInterface net v far
  pub near_subnet : near.subnet ≡ Some subnet
  pub far_subnet : far.subnet ≡ Some subnet
  pub near_link : near.loopback ≡ false
  pub far_link : far.loopback ≡ false
  pub near_runs : RunsIn zone near
  pub far_runs : RunsIn zone far
  pub joined : MayJoin zone near_up.config far_up.config
  pub costs : cost_in zone near ≡ cost
