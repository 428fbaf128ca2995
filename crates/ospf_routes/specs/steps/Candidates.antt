-- The prefixes that OSPF may have entries for.
use Rattle.std.specs.Prelude.{◌≡◌, ℕ, List, Some, Any, Contains, IsTrue, IsSome}
use Rattle.net_addr.specs.Addresses.{Block, Covers, default_prefix}
use Rattle.net_model.specs.Configuration.{Configuration}
use Rattle.net_model.specs.Network.{Network, HasConfiguration, UpInterface}
use Rattle.net_model.specs.declared.area.Range.{Range}
use Rattle.net_model.specs.declared.interface.Interface.{Interface}
use Rattle.ospf_routes.specs.steps.Subnets.{IsUpSubnet}
use Rattle.ospf_routes.specs.declared.subnets.Subnet.{Subnet}

-- the interface is up, runs OSPF and has the subnet p
pub record HasOspfSubnet (p : Block) (i : Interface) : Type 0 where
  pub up : IsTrue i.up
  pub runs : IsSome i.area
  pub subnet : i.subnet ≡ Some p

-- the range covers the subnet, of its area
pub record IsSubnetUnder (r : Range) (s : Subnet) : Type 0 where
  pub area : s.area ≡ Some r.area
  pub covered : Covers r.dest s.dest

-- the range is of the prefix p, and covers one of these subnets, of its area
pub record IsRangeOver (subnets : List Subnet) (p : Block) (r : Range) : Type 0 where
  pub dest : r.dest ≡ p
  pub over : Any (IsSubnetUnder r) subnets

-- an up interface of some router runs OSPF and has the subnet p
pub record IsOspfSubnet (net : Network) (p : Block) : Type 0 where
  pub router : ℕ
  pub interface : Interface
  pub up : UpInterface net router interface
  pub has : HasOspfSubnet p interface

-- some router has a range of the prefix p, which covers a subnet of its area
pub record IsOspfRange (net : Network) (p : Block) : Type 0 where
  pub router : ℕ
  pub config : Configuration
  pub has_config : HasConfiguration net router config
  pub range : Range
  pub among : Contains config.ranges range
  pub dest : range.dest ≡ p
  pub subnet : Subnet
  pub up : IsUpSubnet net subnet
  pub under : IsSubnetUnder range subnet

-- p is such a subnet, the prefix of such a range, or the prefix of all addresses
pub data IsOspfCandidate (net : Network) (p : Block) : Type 0 where
  all : p ≡ default_prefix → IsOspfCandidate net p
  subnet : IsOspfSubnet net p → IsOspfCandidate net p
  range : IsOspfRange net p → IsOspfCandidate net p
