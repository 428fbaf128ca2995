-- What decides the routes of the routers that are in one area alone, and of border routers.
use Rattle.std.specs.Prelude.{◌≡◌, ◌<◌, ◌⊎◌, ◌∷◌, [], ℕ, List, Option, None, Some, cond, length, ltb, slice_index_or}
use Rattle.net_addr.specs.Addresses.{Block}
use Rattle.net_model.specs.Network.{Network, IsBorderRouter}
use Rattle.igp_theory.specs.Ospf.{OspfEntry}
use Rattle.walk_core.specs.declared.offers.Offer.{Offer}
use Rattle.route_tables.specs.Lanes.{DecidesAt, LeadToBest}
use Rattle.route_tables.specs.Protocols.{IsRouteOf, ProtocolRoutes}
use Rattle.route_tables.specs.declared.lane.Decision.{Decision}
use Rattle.route_tables.specs.declared.lane.Decision.TheVariants.{Nothing, NothingBut, One, Two, Unknown}
use Rattle.ospf_routes.specs.declared.areas.AreaWalks.{AreaWalks}
use Rattle.ospf_routes.specs.declared.areas.TheConstants.{BACKBONE}
use Rattle.ospf_routes.specs.declared.listeners.Listeners.{Listeners}
use Rattle.ospf_routes.specs.steps.AreaReach.{area_reach}
use Rattle.ospf_routes.specs.steps.Domain.{OspfDomain}

-- router u listens to the area at this place, and is no border router
pub record IsInner (net : Network) (listens : List (Option ℕ)) (zone u : ℕ) : Type 0 where
  pub at : slice_index_or listens u None ≡ Some zone
  pub alone : IsBorderRouter net u → ⊥

-- a network with its areas, whom its routers listen to, and the place of one area
pub record LaneOf : Type 0 where
  pub domain : OspfDomain
  pub listens : List (Option ℕ)
  pub zone : ℕ

-- router u listens to the area at this place
abbrev pub IsListening : List (Option ℕ) → ℕ → ℕ → Type 0
IsListening listens zone u = slice_index_or listens u None ≡ Some zone

-- the lane has router u: that of an area has the routers that are in this area alone, the next one any, and that behind it border
-- routers, which listen to the backbone
pub record IsOfOspfLane (l : LaneOf) (u : ℕ) : Type 0 where
  pub below : u < length l.domain.net
  pub inner : l.zone < length l.domain.areas → IsInner l.domain.net l.listens l.zone u
  pub border : length l.domain.areas < l.zone → IsListening l.listens BACKBONE u

-- the place of the area over whose walks the offers are reached that decide in a lane: the lane's area, behind all areas the
-- backbone
abbrev pub place_of_lane : List AreaWalks → ℕ → ℕ
place_of_lane areas lane = cond (ltb lane (length areas)) lane BACKBONE

-- what OSPF gives the routers of a network, which listen to areas at these places: the areas are the zones
abbrev pub given_by_ospf : OspfDomain → List (Option ℕ) → ProtocolRoutes
given_by_ospf domain listens = record {
  routers = length domain.net;
  entry = OspfEntry domain.net;
  zones = length domain.areas;
  reach = area_reach domain.areas;
  in_lane = λ lane. IsOfOspfLane (record { domain = domain; listens = listens; zone = lane });
  lane_zone = place_of_lane domain.areas;
}

-- offers of which this holds decide router u's route for p
abbrev pub LeadsLane : LaneOf → ℕ → Block → List Offer → Type 0
LeadsLane l u p = LeadToBest (area_reach l.domain.areas u l.zone) l.zone (length l.domain.net)
    (IsRouteOf (given_by_ospf l.domain l.listens) u p)

-- what decides the route for p of each router that is in this area alone
abbrev pub DecidesLane : LaneOf → Block → Decision → Type 0
DecidesLane l p d = (u : ℕ) → u < length l.domain.net → IsInner l.domain.net l.listens l.zone u →
    DecidesAt (given_by_ospf l.domain l.listens) l.zone u p d

-- the same of an area with the routers that listen to it
abbrev pub lane_of_listeners : Listeners → LaneOf
lane_of_listeners listeners = record { domain = listeners.domain.now; listens = listeners.listens.now; zone = listeners.zone }

-- what decides the route for p of each router that listens to this area
abbrev pub DecidesListened : LaneOf → Block → Decision → Type 0
DecidesListened l p d = (u : ℕ) → u < length l.domain.net → IsListening l.listens l.zone u →
    DecidesAt (given_by_ospf l.domain l.listens) l.zone u p d

-- the decision is one or two offers, which are all of these
abbrev pub IsOfFew : List Offer → Decision → Type 0
IsOfFew offers Nothing = ⊥
IsOfFew offers (NothingBut one other) = ⊥
IsOfFew offers (One at) = (asks : ℕ) × (offers ≡ record { at = at; asks = asks } ∷ [])
IsOfFew offers (Two one other) = offers ≡ one ∷ other ∷ []
IsOfFew offers Unknown = Unit {0}

-- the decision is that there is nothing
abbrev pub IsNothing : Decision → Type 0
IsNothing Nothing = Unit {0}
IsNothing (NothingBut one other) = Unit {0}
IsNothing (One at) = ⊥
IsNothing (Two one other) = ⊥
IsNothing Unknown = Unit {0}

-- the decision is by what is heard: one or two offers, or nothing where there are none
abbrev pub IsOfHeard : List Offer → Decision → Type 0
IsOfHeard heard d = ((length heard ≡ 0) × IsNothing d) ⊎ IsOfFew heard d

-- the decision says nothing of router u
abbrev pub Excepts : Decision → ℕ → Type 0
Excepts Nothing u = ⊥
Excepts (NothingBut one other) u = (u ≡ one) ⊎ (u ≡ other)
Excepts (One at) u = u ≡ at
Excepts (Two one other) u = (u ≡ one.at) ⊎ (u ≡ other.at)
Excepts Unknown u = Unit {0}
