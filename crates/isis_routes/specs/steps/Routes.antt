-- Routes of a router for a prefix.
use Rattle.std.specs.Prelude.{ℕ, List, length, Option, MatchOption}
use Rattle.net_addr.specs.Addresses.{Block}
use Rattle.net_model.specs.Network.{Network}
use Rattle.walk_core.specs.BestOffers.{AreInRange, NoneTotals}
use Rattle.walk_core.specs.declared.offers.Offer.{Offer}
use Rattle.igp_theory.specs.Isis.{HasLevelOneRoute, HasLevelTwoRoute, IsisEntry}
use Rattle.route_tables.specs.BestRoutes.{IsBestRoute}
use Rattle.route_tables.specs.Protocols.{IsRouteOf, ProtocolRoutes}
use Rattle.route_tables.specs.declared.route.Route.{Route}
use Rattle.isis_routes.specs.steps.Domain.{IsisDomain}
use Rattle.isis_routes.specs.steps.Lanes.{IsOfIsisLane, first_zone}
use Rattle.isis_routes.specs.steps.LevelReach.{level_reach}
use Rattle.isis_routes.specs.steps.Levels.{zone_number}
use Rattle.walk_core.specs.Reach.{Reach}
use Rattle.isis_routes.specs.declared.level.Level.{Level}
use Rattle.isis_routes.specs.declared.level.Level.TheVariants.{One, Two}

-- what IS-IS gives the routers of a network, whose levels are the zones
abbrev pub given_by_isis : IsisDomain → ProtocolRoutes
given_by_isis domain = record {
  routers = length domain.net;
  entry = IsisEntry domain.net;
  zones = 2;
  reach = level_reach domain.walks;
  in_lane = IsOfIsisLane domain.net;
  lane_zone = first_zone;
}

-- the route makes router u's entry for p
abbrev pub IsIsisRoute : IsisDomain → ℕ → Block → Route → Type 0
IsIsisRoute domain = IsRouteOf (given_by_isis domain)

-- router u has a route for p in the level
abbrev pub HasRouteIn : Network → Block → ℕ → Level → Type 0
HasRouteIn net p u One = HasLevelOneRoute net p u
HasRouteIn net p u Two = HasLevelTwoRoute net p u

-- it has one in a level that comes first
abbrev pub HasRouteBefore : Network → Block → ℕ → Level → Type 0
HasRouteBefore net p u One = ⊥
HasRouteBefore net p u Two = HasLevelOneRoute net p u

-- a router of a network, in a level
pub record InLevel : Type 0 where
  pub domain : IsisDomain
  pub level : Level
  pub router : ℕ

-- router u in the level
abbrev pub in_level : IsisDomain → Level → ℕ → InLevel
in_level domain level u = record { domain = domain; level = level; router = u }

-- its least walks there
abbrev pub walks_in : InLevel → Reach
walks_in at = level_reach at.domain.walks at.router (zone_number at.level)

-- over them this is the route to the best of the offers, and none where none is reached
abbrev pub IsBestIn : InLevel → List Offer → Option Route → Type 0
IsBestIn at offers found =
    MatchOption found (NoneTotals (walks_in at) offers) (IsBestRoute (walks_in at) offers (zone_number at.level) (length at.domain.net))

-- over them the best of the offers is the router's route for p, and where none of them is reached, this is so
pub record LeadIn (at : InLevel) (p : Block) (none : Type 0) (offers : List Offer) : Type 0 where
  pub range : AreInRange (walks_in at) offers
  pub route : (found : Option Route) → IsBestIn at offers found → MatchOption found none (IsIsisRoute at.domain at.router p)
