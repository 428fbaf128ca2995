-- What the interfaces of each area offer of a prefix.
use Rattle.std.specs.Prelude.{◌≡◌, ◌⊎◌, ℕ, List, map, All, Any, Contains}
use Rattle.std.specs.List.Sorted.{IsNonDecreasingBy}
use Rattle.net_addr.specs.Addresses.{Block}
use Rattle.net_model.specs.Network.{Network, Connected}
use Rattle.walk_core.specs.declared.offers.Offer.{Offer}
use Rattle.igp_theory.specs.Ospf.{OffersSubnet}
use Rattle.route_tables.specs.Prefixes.{AreDistinctPrefixes}
use Rattle.ospf_routes.specs.steps.Areas.{HasArea, IsAreaAt}
use Rattle.ospf_routes.specs.steps.Candidates.{IsOspfCandidate}
use Rattle.ospf_routes.specs.steps.Domain.{OspfDomain}
use Rattle.ospf_routes.specs.Lists.{Exactly}
use Rattle.ospf_routes.specs.steps.Offered.{AreOffers, InsideOf}
use Rattle.ospf_routes.specs.declared.areas.AreaWalks.{AreaWalks}
use Rattle.ospf_routes.specs.declared.intra_area.AreaOffers.{AreaOffers}
use Rattle.ospf_routes.specs.declared.intra_area.Destination.{Destination}
use Rattle.ospf_routes.specs.declared.area_route.AreaRoute.{AreaRoute}

-- these are the routes of the part's area, as offers
abbrev pub IsPartOf : List AreaRoute → AreaOffers → Type 0
IsPartOf routes part = Exactly (λ (o : Offer). Any (λ (r : AreaRoute). InsideOf part.area r o) routes) part.offers.items

-- and the part says at which place its area is
pub record IsPartIn (areas : List AreaWalks) (routes : List AreaRoute) (part : AreaOffers) : Type 0 where
  pub offers : IsPartOf routes part
  pub at : IsAreaAt areas part.area part.zone

-- one of the parts is of area n
pub record HasAreaPart (parts : List AreaOffers) (n : ℕ) : Type 0 where
  pub part : AreaOffers
  pub among : Contains parts part
  pub area : part.area ≡ n

-- this is the part of area n, which is at this place
pub record IsPartAt (routes : List AreaRoute) (n zone : ℕ) (part : AreaOffers) : Type 0 where
  pub area : part.area ≡ n
  pub zone_is : part.zone ≡ zone
  pub offers : IsPartOf routes part

-- to the parts there comes one of which this holds, and none else
pub record AddsPart (Is : AreaOffers → Type 0) (old new : List AreaOffers) : Type 0 where
  pub each : (part : AreaOffers) → Contains new part → Contains old part ⊎ Is part
  pub kept : (part : AreaOffers) → Contains old part → Contains new part
  pub added : Any Is new

-- parts of areas stay such and have no area less, and area n, where it is one, has a part
pub record AddsArea (areas : List AreaWalks) (routes : List AreaRoute) (n : ℕ) (old new : List AreaOffers) : Type 0 where
  pub each : All (IsPartIn areas routes) old → All (IsPartIn areas routes) new
  pub kept : (m : ℕ) → HasAreaPart old m → HasAreaPart new m
  pub added : HasArea areas n → HasAreaPart new n

-- the homes are the routers that the prefix is connected at; each part has what its area offers of the prefix, and each
-- area that offers something is a part
pub record IsDestination (net : Network) (d : Destination) : Type 0 where
  pub homes : Exactly (λ (u : ℕ). Connected net u d.dest) d.homes.items
  pub exact : All (λ (part : AreaOffers). AreOffers (OffersSubnet net part.area d.dest) part.offers.items) d.parts.items
  pub every : (n w cost : ℕ) → OffersSubnet net n d.dest w cost → HasAreaPart d.parts.items n

-- and each part says at which place its area is
pub record IsDestinationIn (domain : OspfDomain) (d : Destination) : Type 0 where
  pub is : IsDestination domain.net d
  pub placed : All (λ (part : AreaOffers). IsAreaAt domain.areas part.area part.zone) d.parts.items

-- the part has what its area offers of prefix p, and says at which place its area is
pub record IsPartFor (domain : OspfDomain) (p : Block) (part : AreaOffers) : Type 0 where
  pub offers : AreOffers (OffersSubnet domain.net part.area p) part.offers.items
  pub at : IsAreaAt domain.areas part.area part.zone

-- it has those of some prefix
abbrev pub IsSomePart : OspfDomain → AreaOffers → Type 0
IsSomePart domain part = (p : Block) × IsPartFor domain p part

-- the prefixes of destinations
abbrev pub ospf_prefixes : List Destination → List Block
ospf_prefixes destinations = map (λ (d : Destination). d.dest) destinations

-- the destinations are distinct prefixes in the order of the addresses that they begin with, and each candidate is one
pub record AreOspfDestinations (domain : OspfDomain) (destinations : List Destination) : Type 0 where
  pub each : All (IsDestinationIn domain) destinations
  pub distinct : AreDistinctPrefixes (ospf_prefixes destinations)
  pub ordered : IsNonDecreasingBy (λ (d : Destination). d.dest.base) destinations
  pub every : (p : Block) → IsOspfCandidate domain.net p → Contains (ospf_prefixes destinations) p
