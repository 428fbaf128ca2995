-- What is asked of two up interfaces beside all of them.
use Rattle.std.specs.Prelude.{◌≡◌, ◌≢◌, ◌↔◌, ℕ, ◌<◌, false, ◌⊎◌, List, map, AllPairs, Any, Contains}
use Rattle.net_addr.specs.Addresses.{ContainsAddress}
use Rattle.net_model.specs.Links.{IsLink}
use Rattle.net_model.specs.Network.{cost_in}
use Rattle.net_model.specs.declared.zone.Zone.{Zone}
use Rattle.net_model.specs.declared.zone.Zone.TheVariants.{Area}
use Rattle.network_survey.specs.Pairs.{PortPair, PairBefore}
use Rattle.network_survey.specs.Ports.{Port, StandsEarlier}
use Rattle.network_survey.specs.declared.partners.Unlikeness.{Unlikeness}
use Rattle.network_survey.specs.declared.partners.Unlikeness.TheVariants.{Masks, CostsInArea, Costs}

-- the two are of two routers, none a loopback; their subnets differ, and one contains the other's address
pub record MissMasks (one other : Port) : Type 0 where
  pub order : one.router < other.router
  pub one_link : one.interface.loopback ≡ false
  pub other_link : other.interface.loopback ≡ false
  pub differ : one.subnet ≢ other.subnet
  pub meet : ContainsAddress one.subnet other.interface.address ⊎ ContainsAddress other.subnet one.interface.address

-- a third port is of the subnet, and of neither router
pub record IsThird (one other third : Port) : Type 0 where
  pub subnet : third.subnet ≡ one.subnet
  pub not_one : third.router ≢ one.router
  pub not_other : third.router ≢ other.router

-- the two are the ends of a link of two routers, at two costs in the zone
pub record MissCosts (ports : List Port) (zone : Zone) (one other : Port) : Type 0 where
  pub order : one.router < other.router
  pub subnet : one.subnet ≡ other.subnet
  pub one_link : IsLink zone one.interface
  pub other_link : IsLink zone other.interface
  pub differ : cost_in zone one.interface ≢ cost_in zone other.interface
  pub alone : Any (IsThird one other) ports → ⊥

-- so in an OSPF area
pub record MissCostsInArea (ports : List Port) (one other : Port) : Type 0 where
  pub area : ℕ
  pub miss : MissCosts ports (Area area) one other

-- the two are unlike so
abbrev pub AreUnlike : Unlikeness → List Port → Port → Port → Type 0
AreUnlike Masks ports one other = MissMasks one other
AreUnlike CostsInArea ports one other = MissCostsInArea ports one other
AreUnlike (Costs zone) ports one other = MissCosts ports zone one other

-- the first of them is one of these, the second one of those, and P holds of the two
pub record IsPairOf (P : Port → Port → Type 0) (ones others : List Port) (pair : PortPair) : Type 0 where
  pub one : Contains ones pair.one
  pub other : Contains others pair.other
  pub holds : P pair.one pair.other

-- all such pairs, in their order
pub record SelectsPairs (P : Port → Port → Type 0) (ones others : List Port) (found : List PortPair) : Type 0 where
  pub exact : (pair : PortPair) → Contains found pair ↔ IsPairOf P ones others pair
  pub ascending : AllPairs StandsEarlier ones → AllPairs StandsEarlier others → AllPairs PairBefore found

-- a port with each of these
abbrev pub pairs_with : Port → List Port → List PortPair
pairs_with one others = map (λ (other : Port). record { one = one; other = other }) others
