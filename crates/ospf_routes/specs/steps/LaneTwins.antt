-- Prefixes that have the same entries at every router that is in one area alone.
use Rattle.std.specs.Prelude.{◌≡◌, ◌<◌, [], ℕ, List, Option, None, Some, length, slice_index_or, Contains}
use Rattle.net_addr.specs.Addresses.{Block}
use Rattle.igp_theory.specs.Ospf.{OspfEntry}
use Rattle.route_tables.specs.Entries.{AreAlikeFor}
use Rattle.ospf_routes.specs.steps.Areas.{IsAreaAt}
use Rattle.ospf_routes.specs.steps.Places.{AreEach}
use Rattle.ospf_routes.specs.steps.Destinations.{HasAreaPart, ospf_prefixes}
use Rattle.ospf_routes.specs.steps.Domain.{OspfDomain}
use Rattle.ospf_routes.specs.steps.Lanes.{IsInner, LaneOf}
use Rattle.ospf_routes.specs.steps.Twins.{AreEarlierBy}
use Rattle.ospf_routes.specs.declared.intra_area.Destination.{Destination}
use Rattle.ospf_routes.specs.declared.lane_twins.Heard.{Heard}

-- router u is in the area at this place alone
abbrev pub IsLaneRouter : LaneOf → ℕ → Type 0
IsLaneRouter l u = (u < length l.domain.net) × IsInner l.domain.net l.listens l.zone u

-- the lane of the area at a place, by what is known of a network
abbrev pub heard_lane : Heard → ℕ → LaneOf
heard_lane heard zone = record { domain = heard.domain.now; listens = heard.listens.now; zone = zone }

-- the routers that are in an area alone have the same entries for both prefixes
abbrev pub AreLaneAlike : LaneOf → Block → Block → Type 0
AreLaneAlike l = AreAlikeFor (IsLaneRouter l) (OspfEntry l.domain.net)

-- nothing is offered of the prefix within the area, and it is connected at no router that is in the area alone
pub record IsOutsideLane (l : LaneOf) (d : Destination) : Type 0 where
  pub no_part : (n : ℕ) → IsAreaAt l.domain.areas n l.zone → HasAreaPart d.parts.items n → ⊥
  pub away : (u : ℕ) → IsInner l.domain.net l.listens l.zone u → Contains d.homes.items u → ⊥

-- where an earlier prefix is named for a prefix, the routers that are in one area alone have the same entries for both
abbrev pub AreTwinsAlone : List Destination → LaneOf → List (Option ℕ) → Type 0
AreTwinsAlone ds l = AreEarlierBy (AreLaneAlike l) (ospf_prefixes ds) (length ds)

-- and so for each area
abbrev pub AreAllLaneTwins : OspfDomain → List Destination → List (Option ℕ) → List (List (Option ℕ)) → Type 0
AreAllLaneTwins domain ds listens =
    AreEach (λ (zone : ℕ). AreTwinsAlone ds (record { domain = domain; listens = listens; zone = zone })) [] (length domain.areas)

-- the destination at a place is earlier than n, and outside the lane
pub record IsEarlierOutside (l : LaneOf) (ds : List Destination) (n place : ℕ) : Type 0 where
  pub earlier : place < n
  pub d : Destination
  pub at : d ≡ slice_index_or ds place d
  pub outside : IsOutsideLane l d

-- the places that are known are those of such destinations
abbrev pub AreOutsideBelow : LaneOf → List Destination → ℕ → List (Option ℕ) → Type 0
AreOutsideBelow l ds n known = (u place : ℕ) → slice_index_or known u None ≡ Some place → IsEarlierOutside l ds n place
