-- A router and a prefix whose route is asked for.
use Rattle.std.specs.Prelude.{◌≡◌, ◌<◌, ℕ, List, Option, Some, length, MatchOption}
use Rattle.net_model.specs.Network.{Connected}
use Rattle.walk_core.specs.BestOffers.{AreInRange, NoneTotals}
use Rattle.route_core.specs.declared.entry.Entry.{Entry}
use Rattle.route_core.specs.declared.entry.Entry.TheVariants.{Via}
use Rattle.route_tables.specs.BestRoutes.{AreBestHops}
use Rattle.route_tables.specs.Routings.{ForwardsBy, IsRouteFor}
use Rattle.route_tables.specs.declared.route.Route.{Route}
use Rattle.igp_theory.specs.Ospf.{IsIntraArea, OspfEntry}
use Rattle.ospf_routes.specs.steps.AreaReach.{area_reach}
use Rattle.ospf_routes.specs.steps.Areas.{IsListenerAt}
use Rattle.ospf_routes.specs.steps.Destinations.{IsDestinationIn}
use Rattle.ospf_routes.specs.steps.Ranges.{AreActiveRanges}
use Rattle.ospf_routes.specs.steps.Heard.{AreHeardAt}
use Rattle.ospf_routes.specs.steps.Routing.{IsIntraRoute}
use Rattle.ospf_routes.specs.declared.entry.Asked.{Asked}
use Rattle.ospf_routes.specs.declared.entry.Deciding.{Deciding}

-- what is known of a router and a prefix is that of the network
pub record IsQuestion (asked : Asked) : Type 0 where
  pub router : asked.router < length asked.domain.now.net
  pub listens : IsListenerAt asked.domain.now.net asked.domain.now.areas asked.router asked.listens
  pub ranges : AreActiveRanges asked.domain.now.net asked.router asked.ranges.now
  pub destination : IsDestinationIn asked.domain.now asked.destination.now
  pub heard : (zone : ℕ) → asked.listens ≡ Some zone → AreHeardAt asked.domain.now asked.destination.now.dest zone asked.heard.now

-- the router has no entry for the prefix
abbrev pub HasNoEntry : Asked → Type 0
HasNoEntry asked = (e : Entry) → OspfEntry asked.domain.now.net asked.router asked.destination.now.dest e → ⊥

-- the router has no intra-area route to the prefix
abbrev pub HasNoIntraRoute : Asked → Type 0
HasNoIntraRoute asked = IsIntraArea asked.domain.now.net asked.destination.now.dest asked.router → ⊥

-- it has one, with these hops
abbrev pub HasIntraRoute : Asked → List ℕ → Type 0
HasIntraRoute asked = IsIntraRoute asked.domain.now.net asked.destination.now.dest asked.router

-- the route makes an entry of the hops of the intra-area route
abbrev pub MakesIntraRoute : Asked → Route → Type 0
MakesIntraRoute asked = IsRouteFor (area_reach asked.domain.now.areas asked.router) (length asked.domain.now.areas) (length asked.domain.now.net)
    (ForwardsBy (HasIntraRoute asked))

-- the route makes the router's entry for the prefix
abbrev pub IsRoute : Asked → Route → Type 0
IsRoute asked = IsRouteFor (area_reach asked.domain.now.areas asked.router) (length asked.domain.now.areas) (length asked.domain.now.net)
    (OspfEntry asked.domain.now.net asked.router asked.destination.now.dest)

-- this is the route, and there is no entry where there is none
abbrev pub IsFoundRoute : Asked → Option Route → Type 0
IsFoundRoute asked found = MatchOption found (HasNoEntry asked) (IsRoute asked)

-- these are offers over walks in their area, and the hops towards the best of them are those of the intra-area route
pub record IsInside (asked : Asked) (d : Deciding) : Type 0 where
  pub zone : d.zone < length asked.domain.now.areas
  pub same : area_reach asked.domain.now.areas asked.router d.zone ≡ d.walks.now
  pub range : AreInRange d.walks.now d.offers.now
  pub hops : (found : Option (List ℕ)) →
      MatchOption found (NoneTotals d.walks.now d.offers.now) (AreBestHops d.walks.now d.offers.now (length asked.domain.now.net)) →
      MatchOption found (HasNoIntraRoute asked) (HasIntraRoute asked)

-- the hops towards the best of these offers make the router's entry for the prefix, unless that is connected there
pub record IsDeciding (asked : Asked) (d : Deciding) : Type 0 where
  pub zone : d.zone < length asked.domain.now.areas
  pub same : area_reach asked.domain.now.areas asked.router d.zone ≡ d.walks.now
  pub range : AreInRange d.walks.now d.offers.now
  pub entry : (Connected asked.domain.now.net asked.router asked.destination.now.dest → ⊥) → (hops : List ℕ) →
      AreBestHops d.walks.now d.offers.now (length asked.domain.now.net) hops →
      OspfEntry asked.domain.now.net asked.router asked.destination.now.dest (Via hops)
