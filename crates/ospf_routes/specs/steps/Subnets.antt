-- The subnets of the interfaces that are up, whatever these run.
use Rattle.std.specs.Prelude.{◌≡◌, ◌&&◌, ℕ, Bool, not, List, Some, IsTrue, Contains}
use Rattle.net_addr.specs.Addresses.{Block, Covers}
use Rattle.net_model.specs.Network.{Network, UpInterface}
use Rattle.net_model.specs.declared.interface.Interface.{Interface}
use Rattle.ospf_routes.specs.declared.area_route.AreaRoute.{AreaRoute}
use Rattle.ospf_routes.specs.declared.subnets.Subnet.{Subnet}

-- whether an interface forms adjacencies in its area: it is no loopback, and not passive
abbrev pub joins_on : Interface → Bool
joins_on i = not i.loopback && not i.ospf_passive

-- the subnet is that of router w's interface, which is up
pub record IsInterfaceSubnet (w : ℕ) (i : Interface) (s : Subnet) : Type 0 where
  pub up : IsTrue i.up
  pub dest : i.subnet ≡ Some s.dest
  pub at : s.at ≡ w
  pub area : s.area ≡ i.area
  pub costs : s.asks ≡ i.cost
  pub joins : s.joins ≡ joins_on i

-- an up interface of the router has the subnet
pub record IsUpSubnet (net : Network) (s : Subnet) : Type 0 where
  pub interface : Interface
  pub up : UpInterface net s.at interface
  pub dest : interface.subnet ≡ Some s.dest
  pub area : s.area ≡ interface.area
  pub costs : s.asks ≡ interface.cost
  pub joins : s.joins ≡ joins_on interface

-- these are some of the subnets, and among them all that are of the prefix p
pub record AreSubnetsAround (all : List Subnet) (p : Block) (near : List Subnet) : Type 0 where
  pub among : (s : Subnet) → Contains near s → Contains all s
  pub every : (s : Subnet) → Contains all s → s.dest ≡ p → Contains near s

-- these are some of the subnets, and among them all that the prefix p covers
pub record AreSubnetsUnder (all : List Subnet) (p : Block) (near : List Subnet) : Type 0 where
  pub among : (s : Subnet) → Contains near s → Contains all s
  pub every : (s : Subnet) → Contains all s → Covers p s.dest → Contains near s

-- the subnet is of the prefix p, and router u's
pub record IsHome (p : Block) (u : ℕ) (s : Subnet) : Type 0 where
  pub dest : s.dest ≡ p
  pub at : s.at ≡ u

-- the subnet is of the prefix p and runs OSPF, and the route is that to it
pub record IsSubnetRoute (p : Block) (r : AreaRoute) (s : Subnet) : Type 0 where
  pub dest : s.dest ≡ p
  pub area : s.area ≡ Some r.area
  pub at : r.at ≡ s.at
  pub costs : r.asks ≡ s.asks
