-- A network with all that OSPF entries are computed from.
use Rattle.std.specs.Prelude.{ℕ, Bool, List, Option, length}
use Rattle.net_addr.specs.Addresses.{Block}
use Rattle.igp_theory.specs.Ospf.{OspfEntry}
use Rattle.route_tables.specs.Entries.{AreAlikeFor}
use Rattle.ospf_routes.specs.steps.Areas.{AreListeners}
use Rattle.ospf_routes.specs.steps.Destinations.{AreOspfDestinations, ospf_prefixes}
use Rattle.ospf_routes.specs.steps.Domain.{OspfDomain}
use Rattle.ospf_routes.specs.steps.Lanes.{IsOfOspfLane, LaneOf}
use Rattle.ospf_routes.specs.steps.LaneTwins.{AreAllLaneTwins}
use Rattle.ospf_routes.specs.steps.Ranges.{AreRangesBelow, HoldRanges}
use Rattle.ospf_routes.specs.steps.Heard.{AreSummaries}
use Rattle.ospf_routes.specs.steps.OfferLists.{HeardLists}
use Rattle.ospf_routes.specs.steps.Twins.{AreEarlierBy, AreTwins}
use Rattle.ospf_routes.specs.declared.intra_area.Destination.{Destination}
use Rattle.ospf_routes.specs.declared.ranges.ActiveRange.{ActiveRange}

-- a network with its areas, what these offer of each prefix, the places of the areas that its routers listen to, their active
-- ranges and the prefixes of these, whether there is a lane of border routers, what they announce of each prefix, and for
-- each prefix an earlier one with the same entries,
-- also within areas, where one is found
pub record OspfNetwork : Type 0 where
  pub domain : OspfDomain
  pub destinations : List Destination
  pub listens : List (Option ℕ)
  pub ranges : List (List ActiveRange)
  pub ranged : List Block
  pub has_borders : Bool
  pub summaries : HeardLists
  pub twins : List (Option ℕ)
  pub lane_twins : List (List (Option ℕ))

-- the lane of this number
abbrev pub lane_in : OspfNetwork → ℕ → LaneOf
lane_in ospf lane = record { domain = ospf.domain; listens = ospf.listens; zone = lane }

-- where an earlier prefix is named for one, the routers of the lane have the same entries for both
abbrev pub AreEarlierIn : OspfNetwork → ℕ → List (Option ℕ) → Type 0
AreEarlierIn ospf lane =
    let dests = ospf_prefixes ospf.destinations in
    AreEarlierBy (AreAlikeFor (IsOfOspfLane (lane_in ospf lane)) (OspfEntry ospf.domain.net)) dests (length dests)

-- all of it is that of the network
pub record IsOspf (ospf : OspfNetwork) : Type 0 where
  pub destinations : AreOspfDestinations ospf.domain ospf.destinations
  pub listeners : AreListeners ospf.domain.net ospf.domain.areas (length ospf.domain.net) ospf.listens
  pub ranges : AreRangesBelow ospf.domain.net (length ospf.domain.net) ospf.ranges
  pub ranged : HoldRanges ospf.domain.net ospf.ranged
  pub announced : AreSummaries ospf.domain ospf.destinations ospf.summaries
  pub twins : AreTwins ospf.domain.net (ospf_prefixes ospf.destinations) ospf.twins
  pub lane_twins : AreAllLaneTwins ospf.domain ospf.destinations ospf.listens ospf.lane_twins
