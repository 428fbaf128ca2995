-- Two up interfaces that don't fit each other.
use Rattle.std.specs.Prelude.{◌≡◌, ◌≢◌, ℕ, ◌<◌, false, ◌⊎◌, List}
use Rattle.net_addr.specs.Addresses.{ContainsAddress}
use Rattle.net_model.specs.Links.{IsLink}
use Rattle.net_model.specs.Network.{Network, Connected, cost_in}
use Rattle.net_model.specs.declared.zone.Zone.{Zone}
use Rattle.net_model.specs.declared.zone.Zone.TheVariants.{Area}
use Rattle.network_survey.specs.Listings.{ListsAll}
use Rattle.network_survey.specs.Ports.{Port, IsUpPort, StandsEarlier}

-- two interfaces
pub record PortPair : Type 0 where
  pub one : Port
  pub other : Port

-- they are up interfaces of two routers of the network, the lower router's first
pub record IsPortPair (net : Network) (pair : PortPair) : Type 0 where
  pub one : IsUpPort net pair.one
  pub other : IsUpPort net pair.other
  pub order : pair.one.router < pair.other.router

-- two up interfaces of two routers, none a loopback, whose subnets differ, and one subnet contains the other's address
pub record DifferInMask (net : Network) (pair : PortPair) : Type 0 where
  pub ports : IsPortPair net pair
  pub one_link : pair.one.interface.loopback ≡ false
  pub other_link : pair.other.interface.loopback ≡ false
  pub differ : pair.one.subnet ≢ pair.other.subnet
  pub meet :
      ContainsAddress pair.one.subnet pair.other.interface.address ⊎ ContainsAddress pair.other.subnet pair.one.interface.address

-- the two ends of a link of two routers, by which they are adjacent in the zone, at two costs there
pub record AreUneven (net : Network) (zone : Zone) (pair : PortPair) : Type 0 where
  pub ports : IsPortPair net pair
  pub subnet : pair.one.subnet ≡ pair.other.subnet
  pub one_link : IsLink zone pair.one.interface
  pub other_link : IsLink zone pair.other.interface
  pub differ : cost_in zone pair.one.interface ≢ cost_in zone pair.other.interface
  pub alone : (w : ℕ) → Connected net w pair.one.subnet → (w ≡ pair.one.router) ⊎ (w ≡ pair.other.router)

-- so in an OSPF area
pub record AreUnevenInArea (net : Network) (pair : PortPair) : Type 0 where
  pub area : ℕ
  pub uneven : AreUneven net (Area area) pair

-- pairs come in the order of their first interfaces, and those of one in the order of the others
pub data PairBefore (p q : PortPair) : Type 0 where
  by_one : StandsEarlier p.one q.one → PairBefore p q
  by_other : p.one ≡ q.one → StandsEarlier p.other q.other → PairBefore p q

-- the pairs of which P holds, in their order
abbrev pub ListsPairs : (PortPair → Type 0) → List PortPair → Type 0
ListsPairs = ListsAll PairBefore
