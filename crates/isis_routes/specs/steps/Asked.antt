-- A router and a prefix whose route is asked for.
use Rattle.std.specs.Prelude.{◌<◌, List, Option, length, MatchOption}
use Rattle.net_model.specs.Network.{Connected}
use Rattle.walk_core.specs.declared.offers.Offer.{Offer}
use Rattle.route_core.specs.declared.entry.Entry.{Entry}
use Rattle.igp_theory.specs.Isis.{HasDownRoute, IsisEntry}
use Rattle.route_tables.specs.declared.route.Route.{Route}
use Rattle.isis_routes.specs.steps.Destinations.{HasAnnouncements}
use Rattle.isis_routes.specs.steps.Routes.{HasRouteBefore, HasRouteIn, IsIsisRoute, LeadIn, in_level}
use Rattle.isis_routes.specs.declared.asked.Asked.{Asked}
use Rattle.isis_routes.specs.declared.level.Level.{Level}
use Rattle.isis_routes.specs.declared.level.Level.TheVariants.{One, Two}

-- what is known of the prefix is that of the network, which has the router
pub record IsIsisQuestion (asked : Asked) : Type 0 where
  pub router : asked.router < length asked.domain.now.net
  pub announced : HasAnnouncements asked.domain.now.net asked.destination.now

-- the prefix isn't connected at the router
abbrev pub IsAway : Asked → Type 0
IsAway asked = Connected asked.domain.now.net asked.router asked.destination.now.one.dest → ⊥

-- the router has no route in the level
abbrev pub HasNoneIn : Asked → Level → Type 0
HasNoneIn asked level = HasRouteIn asked.domain.now.net asked.destination.now.one.dest asked.router level → ⊥

-- nor in a level that comes first
abbrev pub HasNoneBefore : Asked → Level → Type 0
HasNoneBefore asked level = HasRouteBefore asked.domain.now.net asked.destination.now.one.dest asked.router level → ⊥

-- over the level's least walks the best of the offers is its route, and it has none there where none of them is reached
abbrev pub LeadAsked : Asked → Level → List Offer → Type 0
LeadAsked asked level = LeadIn (in_level asked.domain.now level asked.router) asked.destination.now.one.dest (HasNoneIn asked level)

-- it has none in both levels
pub record HasNoLevelRoute (asked : Asked) : Type 0 where
  pub one : HasNoneIn asked One
  pub two : HasNoneIn asked Two

-- it has no down route
abbrev pub HasNoDownRoute : Asked → Type 0
HasNoDownRoute asked = HasDownRoute asked.domain.now.net asked.destination.now.one.dest asked.router → ⊥

-- it has no entry
abbrev pub HasNoIsisEntry : Asked → Type 0
HasNoIsisEntry asked = (e : Entry) → IsisEntry asked.domain.now.net asked.router asked.destination.now.one.dest e → ⊥

-- this is the route, where there is one, and where there is none, this is so
abbrev pub IsRouteElse : Asked → Type 0 → Option Route → Type 0
IsRouteElse asked none found = MatchOption found none (IsIsisRoute asked.domain.now asked.router asked.destination.now.one.dest)
