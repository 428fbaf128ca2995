-- Routes over the least walks of an area, by the place of the area among all.
use Rattle.std.proofs.lemmas.Grind.{common_steps}
use Rattle.std.proofs.Common.{◌≡◌, ℕ, ◌<◌, List, length, Option, Some, None, MatchOption, Result, IfOk, sym, ap, subst, ◌∙◌}
use Rattle.std.proofs.Common.{arith}
use Rattle.std.specs.List.{Contains}
use Rattle.std.proofs.lemmas.List.{get_or_default}
use Rattle.std.proofs.lemmas.Result.{IfOk-weaker}
use Rattle.net_addr.specs.Addresses.{Block}
use Rattle.net_model.specs.Network.{Network, Adjacent, InArea}
use Rattle.net_model.specs.declared.zone.Zone.TheVariants.{Area}
use Rattle.walk_core.specs.Offers.{BestHop}
use Rattle.walk_core.specs.Reach.{Reach}
use Rattle.walk_core.specs.BestOffers.{NoneTotals}
use Rattle.walk_core.specs.declared.offers.Offer.{Offer}
use Rattle.igp_theory.specs.Ospf.{OffersSubnet, IntraAreaCost, IntraAreaHop, IsIntraArea}
use Rattle.route_tables.specs.BestRoutes.{AreBestHops, IsBestRoute}
use Rattle.route_tables.specs.Routings.{ForwardsBy, IsRouteFor}
use Rattle.route_tables.specs.declared.route.Route.{Route}
use Rattle.route_tables.proofs.BestRoutes.{best_route_is, hops_same}
use Rattle.ospf_routes.specs.steps.AreaReach.{area_reach}
use Rattle.ospf_routes.specs.steps.Destinations.{IsDestination}
use Rattle.ospf_routes.specs.steps.Routing.{IsAreaRoute, IsIntraRoute}
use Rattle.ospf_routes.specs.declared.areas.AreaWalks.{AreaWalks}
use Rattle.ospf_routes.specs.declared.intra_area.AreaOffers.{AreaOffers}
use Rattle.ospf_routes.specs.declared.intra_area.Destination.{Destination}

-- what follows of the hops of the best offers follows of the route to them
pub zone_route : {E : Type 0} (net : Network) (areas : List AreaWalks) (u zone n : ℕ) (reach : Reach) (offers : List Offer) (none : Type 0)
    (some : List ℕ → Type 0) (r : Result (Option Route) E) → zone < length areas → area_reach areas u zone ≡ reach → n ≡ length net →
    ((hops : Option (List ℕ)) → MatchOption hops (NoneTotals reach offers) (AreBestHops reach offers (length net)) → MatchOption hops none some) →
    IfOk r (λ found. MatchOption found (NoneTotals reach offers) (IsBestRoute reach offers zone n)) →
    IfOk r (λ found. MatchOption found none (IsRouteFor (area_reach areas u) (length areas) (length net) (ForwardsBy some)))
zone_route net areas u zone n reach offers none some r within same count follows is =
    IfOk-weaker r (λ found. MatchOption found (NoneTotals reach offers) (IsBestRoute reach offers zone n))
    (λ found. MatchOption found none (IsRouteFor (area_reach areas u) (length areas) (length net) (ForwardsBy some)))
    (λ found best. best_route_is (area_reach areas u) (length areas) (length net) zone reach offers none some within same follows found
    (subst (λ (m : ℕ). MatchOption found (NoneTotals reach offers) (IsBestRoute reach offers zone m)) count best)) is

-- One area alone

one_element : {X : Type 0} (xs : List X) (x y : X) → length xs ≡ 1 → Contains xs x → Contains xs y → x ≡ y
one_element xs x y one a b = grind (arith, common_steps, get_or_default)

-- where one area has offers, all offers are of this area
pub only_area : (net : Network) (d : Destination) (part : AreaOffers) (n w cost : ℕ) → IsDestination net d → length d.parts.items ≡ 1 →
    Contains d.parts.items part → OffersSubnet net n d.dest w cost → n ≡ part.area
only_area net d part n w cost is one among offers =
    let has = is.every n w cost offers in
    sym has.area ∙ ap (λ (x : AreaOffers). x.area) (one_element d.parts.items has.part part one has.among among)

-- so the intra-area route is that of the area
pub only_none : (net : Network) (d : Destination) (part : AreaOffers) (u : ℕ) → IsDestination net d → length d.parts.items ≡ 1 → Contains d.parts.items part →
    ((cost : ℕ) → IntraAreaCost net part.area d.dest u cost → ⊥) → IsIntraArea net d.dest u → ⊥
only_none net d part u is one among none intra =
    let best = intra.costs.best in
    let here = only_area net d part intra.area best.at best.attained.asks is one among best.attained.offered in
    none intra.cost (subst (λ (n : ℕ). IntraAreaCost net n d.dest u intra.cost) here intra.costs)

-- where all hops lead through one area, the route there is the intra-area route
pub route_of_area : (net : Network) (n : ℕ) (p : Block) (u : ℕ) (hops : List ℕ) →
    ((h m : ℕ) → InArea net u m → BestHop (Adjacent net (Area m)) (OffersSubnet net m p) u h → m ≡ n) → IsAreaRoute net n p u hops → IsIntraRoute net p u hops
route_of_area net n p u hops only route = record {
  is = record { area = n; cost = route.cost; costs = route.costs };
  hops_are = hops_same (BestHop (Adjacent net (Area n)) (OffersSubnet net n p) u) (IntraAreaHop net p u) hops
      (λ h. (
        λ hop. record { area = n; inside = route.inside; best = hop },
        λ hop. subst (λ (m : ℕ). BestHop (Adjacent net (Area m)) (OffersSubnet net m p) u h) (only h hop.area hop.inside hop.best) hop.best,
      ))
      route.hops_are;
}

pub only_follows : (net : Network) (d : Destination) (part : AreaOffers) (u : ℕ) (found : Option (List ℕ)) → IsDestination net d → length d.parts.items ≡ 1 →
    Contains d.parts.items part → MatchOption found ((cost : ℕ) → IntraAreaCost net part.area d.dest u cost → ⊥) (IsAreaRoute net part.area d.dest u) →
    MatchOption found (IsIntraArea net d.dest u → ⊥) (IsIntraRoute net d.dest u)
only_follows net d part u None is one among none = only_none net d part u is one among none
only_follows net d part u (Some hops) is one among route =
    route_of_area net part.area d.dest u hops
    (λ h m inside hop. only_area net d part m hop.best.at hop.best.attained.asks is one among hop.best.attained.offered) route
