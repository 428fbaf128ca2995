-- Costs and routes over the least walks of a level.
use Rattle.std.proofs.lemmas.Grind.{common_steps}
use Rattle.std.proofs.Common.{◌≡◌, ℕ, ◌<◌, ◌↔◌, List, [], length, get_or, Option, Some, None, MatchOption, refl, sym, subst, arith}
use Rattle.std.proofs.lemmas.Option.{slice_get-get_or}
use Rattle.net_model.proofs.NetworkFacts.{Adjacent-to_within}
use Rattle.net_model.specs.Network.{Network, Adjacent}
use Rattle.net_model.specs.declared.zone.Zone.{Zone}
use Rattle.net_model.specs.declared.zone.Zone.TheVariants.{One as ZoneOne, Two as ZoneTwo}
use Rattle.walk_core.specs.Walks.{Arcs}
use Rattle.walk_core.specs.Offers.{BestCost}
use Rattle.walk_core.specs.Reach.{Reach, AreLeastWalks, AreNear}
use Rattle.walk_core.specs.BestOffers.{ListsOffer, AreInRange, NoneTotals, IsBestTotal}
use Rattle.walk_core.specs.declared.offers.Offer.{Offer}
use Rattle.walk_core.proofs.OfferLaws.{best_total_is_best_cost, none_totals_no_best}
use Rattle.zone_graph.specs.Walks.{AreZoneWalks}
use Rattle.route_tables.specs.BestRoutes.{AreBestHops}
use Rattle.route_tables.specs.Routings.{ForwardsBy, IsRouteFor}
use Rattle.route_tables.specs.declared.route.Route.{Route}
use Rattle.route_tables.proofs.BestRoutes.{best_cost_is, best_hops_are, best_route_is, offers_in_range}
use Rattle.isis_routes.specs.steps.Domain.{IsisDomain}
use Rattle.isis_routes.specs.steps.LevelReach.{level_reach}
use Rattle.isis_routes.specs.steps.Levels.{zone_in, zone_number}
use Rattle.isis_routes.specs.steps.Offered.{AreSmall}
use Rattle.isis_routes.specs.steps.Routes.{IsBestIn, in_level}
use Rattle.isis_routes.specs.steps.Routing.{AreLevelWalks, HasBest, IsRouteToBest}
use Rattle.isis_routes.specs.declared.level.Level.{Level}
use Rattle.isis_routes.specs.declared.level.Level.TheVariants.{One, Two}
use Rattle.isis_routes.specs.declared.level_walks.LevelWalks.{LevelWalks}

abbrev pub no_walks : Reach
no_walks = record { distances = []; hops = [] }

-- what is known of the least walks of a level from a router
pub record IsReachIn (net : Network) (zone : Zone) (u : ℕ) (reach : Reach) : Type 0 where
  pub least : AreLeastWalks (Adjacent net zone) u reach
  pub near : AreNear 200 reach

pub reach_of : (net : Network) (part : Zone) (walks : List Reach) (u : ℕ) → AreZoneWalks net part walks → u < length net →
    IsReachIn net part u (get_or walks u no_walks)
reach_of net part walks u are within =
    let here = slice_get-get_or walks u no_walks (subst (λ (n : ℕ). u < n) (sym are.routers) within) in
    record { least = are.least u (get_or walks u no_walks) here; near = are.near u (get_or walks u no_walks) here }

reach_in : (net : Network) (level : Level) (walks : LevelWalks) (u : ℕ) → AreLevelWalks net walks → u < length net →
    IsReachIn net (zone_in level) u (level_reach walks u (zone_number level))
reach_in net One walks u are within = reach_of net ZoneOne walks.one.value u are.one within
reach_in net Two walks u are within = reach_of net ZoneTwo walks.two.value u are.two within

-- the least walks of level 1 from a router
pub level_one_walks : (net : Network) (walks : LevelWalks) (u : ℕ) (reach : Reach) → AreLevelWalks net walks → u < length net →
    reach ≡ level_reach walks u 0 → AreLeastWalks (Adjacent net ZoneOne) u reach
level_one_walks net walks u reach are within is =
    subst (AreLeastWalks (Adjacent net ZoneOne) u) (sym is) (reach_of net ZoneOne walks.one.value u are.one within).least

below_two : (level : Level) → zone_number level < 2
below_two level = grind (arith, common_steps)

-- offers that aren't large are in range
pub small_in_range : (net : Network) (level : Level) (walks : LevelWalks) (u : ℕ) (offers : List Offer) → AreLevelWalks net walks → u < length net →
    AreSmall offers → AreInRange (level_reach walks u (zone_number level)) offers
small_in_range net level walks u offers are within small =
    offers_in_range (level_reach walks u (zone_number level)) (ListsOffer offers) offers (reach_in net level walks u are within).near
    (λ at asks. (λ l. l, λ l. l)) small

-- the best total is the best cost of the listed offers
pub listed_cost : (net : Network) (level : Level) (walks : LevelWalks) (u : ℕ) (reach : Reach) (offers : List Offer) → AreLevelWalks net walks →
    u < length net →
    reach ≡ level_reach walks u (zone_number level) → (found : Option ℕ) → MatchOption found (NoneTotals reach offers) (IsBestTotal reach offers) →
    (cost : ℕ) → (found ≡ Some cost) ↔ BestCost (Adjacent net (zone_in level)) (ListsOffer offers) u cost
listed_cost net level walks u reach offers are within is found best =
    best_cost_is (Adjacent net (zone_in level)) u reach (ListsOffer offers) offers
    (subst (AreLeastWalks (Adjacent net (zone_in level)) u) (sym is) (reach_in net level walks u are within).least)
    (λ at asks. (λ l. l, λ l. l)) found best

-- the hops towards the best total are those of the best of the listed offers
listed_hops : (net : Network) (zone : Zone) (u : ℕ) (reach : Reach) (offers : List Offer) → AreLeastWalks (Adjacent net zone) u reach →
    (hops : Option (List ℕ)) → MatchOption hops (NoneTotals reach offers) (AreBestHops reach offers (length net)) →
    MatchOption hops (HasBest (Adjacent net zone) (ListsOffer offers) u → ⊥) (IsRouteToBest (Adjacent net zone) (ListsOffer offers) u)
listed_hops net zone u reach offers walks None none = λ has.
    none_totals_no_best (Adjacent net zone) u reach (ListsOffer offers) offers walks (λ at asks. (λ l. l, λ l. l)) none has.cost has.best
listed_hops net zone u reach offers walks (Some hops) best = record {
  is = record {
    cost = best.cost;
    best = (best_total_is_best_cost (Adjacent net zone) u reach (ListsOffer offers) offers best.cost walks (λ at asks. (λ l. l, λ l. l))).0 best.best;
  };
  hops_are = best_hops_are (Adjacent net zone) u reach (ListsOffer offers) offers (length net) hops walks (λ at asks. (λ l. l, λ l. l))
      (λ h c over. Adjacent-to_within net zone u h c over) best;
}

-- and so is the route to it
pub listed_route : (domain : IsisDomain) (level : Level) (u : ℕ) (offers : List Offer) → AreLevelWalks domain.net domain.walks → u < length domain.net →
    (found : Option Route) → IsBestIn (in_level domain level u) offers found →
    MatchOption found (HasBest (Adjacent domain.net (zone_in level)) (ListsOffer offers) u → ⊥)
    (IsRouteFor (level_reach domain.walks u) 2 (length domain.net) (ForwardsBy (IsRouteToBest (Adjacent domain.net (zone_in level)) (ListsOffer offers) u)))
listed_route domain level u offers are within found best =
    let reach : Reach = level_reach domain.walks u (zone_number level) in
    let arc : Arcs = Adjacent domain.net (zone_in level) in
    best_route_is (level_reach domain.walks u) 2 (length domain.net) (zone_number level) reach offers (HasBest arc (ListsOffer offers) u → ⊥)
    (IsRouteToBest arc (ListsOffer offers) u) (below_two level) refl
    (listed_hops domain.net (zone_in level) u reach offers (reach_in domain.net level domain.walks u are within).least) found best
