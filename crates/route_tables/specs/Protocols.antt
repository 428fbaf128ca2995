-- What a protocol gives the routers of a network.
use Rattle.std.specs.Prelude.{ℕ}
use Rattle.net_addr.specs.Addresses.{Block}
use Rattle.walk_core.specs.Reach.{Reach}
use Rattle.route_core.specs.declared.entry.Entry.{Entry}
use Rattle.route_tables.specs.Entries.{AreAlikeFor}
use Rattle.route_tables.specs.Routings.{IsRouteFor}
use Rattle.route_tables.specs.declared.route.Route.{Route}

-- how many routers there are, their entries for prefixes, their least walks in each of so many zones, and the lanes that
-- they fall into, each with the zone over which the offers are reached that decide there
pub record ProtocolRoutes : Type 1 where
  pub routers : ℕ
  pub entry : ℕ → Block → Entry → Type 0
  pub zones : ℕ
  pub reach : ℕ → ℕ → Reach
  pub in_lane : ℕ → ℕ → Type 0
  pub lane_zone : ℕ → ℕ

-- the route's entry is one that router u has for p
abbrev pub IsRouteOf : ProtocolRoutes → ℕ → Block → Route → Type 0
IsRouteOf routes u p = IsRouteFor (routes.reach u) routes.zones routes.routers (routes.entry u p)

-- the routers of a lane have the same entries for both prefixes
abbrev pub AreAlikeInLane : ProtocolRoutes → ℕ → Block → Block → Type 0
AreAlikeInLane routes lane = AreAlikeFor (routes.in_lane lane) routes.entry
