-- The best of some offers is the route to what they offer.
use Rattle.std.proofs.Common.{◌≡◌, ℕ, ◌*◌, ◌^◌, ◌<◌, ◌↔◌, List, get_or, Option, Some, None, MatchOption, refl, sym, ap, subst, ◌∙◌, arith}
use Rattle.std.proofs.lemmas.Option.{none-some, same_Some}
use Rattle.std.proofs.lemmas.List.Elements.{Contains-get_or}
use Rattle.walk_core.specs.Walks.{Arcs}
use Rattle.walk_core.specs.Offers.{Offers, BestCost, BestHop}
use Rattle.walk_core.specs.Reach.{Reach, AreLeastWalks, AreNear}
use Rattle.walk_core.specs.BestOffers.{ListsOffer, AreInRange, NoneTotals, IsBestTotal}
use Rattle.walk_core.specs.declared.offers.Offer.{Offer}
use Rattle.walk_core.proofs.OfferLaws.{best_total_is_best_cost, none_totals_no_best, hop_towards_is_best_hop}
use Rattle.walk_core.proofs.WalkLaws.{best_cost_unique, best_hop_is_arc}
use Rattle.route_core.specs.Hops.{AreHops}
use Rattle.route_core.specs.declared.entry.Entry.{Entry}
use Rattle.route_core.specs.declared.entry.Entry.TheVariants.{Via, Discard}
use Rattle.route_tables.specs.BestRoutes.{AreBestHops, IsBestRoute}
use Rattle.route_tables.specs.Routings.{AreHopsTo, ForwardsBy, IsReached, IsRouteFor}
use Rattle.route_tables.specs.declared.route.Route.{Route}
use Rattle.route_tables.specs.declared.route.Route.TheVariants.{Drops, Towards, Through}

-- offers that ask less than 2^42 are in range over distances of at most 200 arcs
pub offers_in_range : (reach : Reach) (offer : Offers) (offers : List Offer) → AreNear 200 reach →
    ((at asks : ℕ) → ListsOffer offers at asks ↔ offer at asks) → ((at asks : ℕ) → offer at asks → asks < 2 ^ 42) → AreInRange reach offers
offers_in_range reach offer offers near are small = λ k d within distance is.
    let o : Offer = get_or offers k d in
    let far : distance < 200 * 2 ^ 32 = near o.at distance is in
    let listed : offer o.at o.asks = (are o.at o.asks).0 (record { offer = o; among = Contains-get_or offers k d within; made = refl; asked = refl }) in
    let less : o.asks < 2 ^ 42 = small o.at o.asks listed in
    omega arith

-- the best total is the best cost, and there is none without
pub best_cost_is : (arc : Arcs) (u : ℕ) (reach : Reach) (offer : Offers) (offers : List Offer) → AreLeastWalks arc u reach →
    ((at asks : ℕ) → ListsOffer offers at asks ↔ offer at asks) → (found : Option ℕ) →
    MatchOption found (NoneTotals reach offers) (IsBestTotal reach offers) → (cost : ℕ) → (found ≡ Some cost) ↔ BestCost arc offer u cost
best_cost_is arc u reach offer offers walks are None none cost =
    (λ is. absurd (none-some cost is), λ best. absurd (none_totals_no_best arc u reach offer offers walks are none cost best))
best_cost_is arc u reach offer offers walks are (Some c) best cost =
    let here : BestCost arc offer u c = (best_total_is_best_cost arc u reach offer offers c walks are).0 best in (
      λ is. subst (λ (k : ℕ). BestCost arc offer u k) (same_Some c cost is) here,
      λ other. ap Some (best_cost_unique here other),
    )

-- the hops are the first hops towards the best offers
pub best_hops_are : (arc : Arcs) (u : ℕ) (reach : Reach) (offer : Offers) (offers : List Offer) (n : ℕ) (hops : List ℕ) →
    AreLeastWalks arc u reach → ((at asks : ℕ) → ListsOffer offers at asks ↔ offer at asks) →
    ((h c : ℕ) → arc u h c → h < n) → AreBestHops reach offers n hops → AreHops (BestHop arc offer u) hops
best_hops_are arc u reach offer offers n hops walks are below best =
    let costs : BestCost arc offer u best.cost = (best_total_is_best_cost arc u reach offer offers best.cost walks are).0 best.best in
    record {
      ascending = best.towards.ascending;
      exact = λ h. (
        λ inside. (hop_towards_is_best_hop arc u reach offer offers best.cost h walks are costs).0 ((best.towards.exact h).0 inside).1,
        λ hop. let over = best_hop_is_arc hop in
            (best.towards.exact h).1 (below h over.0 over.1, (hop_towards_is_best_hop arc u reach offer offers best.cost h walks are costs).1 hop),
      );
    }

-- hops of one kind are those of another that says the same
pub hops_same : (hop other : ℕ → Type 0) (hops : List ℕ) → ((h : ℕ) → hop h ↔ other h) → AreHops hop hops → AreHops other hops
hops_same hop other hops same are = record {
  ascending = are.ascending;
  exact = λ h. (λ inside. (same h).0 ((are.exact h).0 inside), λ is. (are.exact h).1 ((same h).1 is));
}

-- Routes

-- what a route makes is also one of other entries
pub route_weaker : (reach : ℕ → Reach) (zones n : ℕ) (one other : Entry → Type 0) (route : Route) → ((e : Entry) → one e → other e) →
    IsRouteFor reach zones n one route → IsRouteFor reach zones n other route
route_weaker reach zones n one other route more is = record { target = is.target; makes = λ e made. more e (is.makes e made) }

-- a route to the best offers makes the entry whose hops are those towards them
pub best_route_makes : (reach : ℕ → Reach) (zones n zone : ℕ) (walks : Reach) (offers : List Offer) (route : Route) → zone < zones → reach zone ≡ walks →
    IsBestRoute walks offers zone n route → IsRouteFor reach zones n (ForwardsBy (AreBestHops walks offers n)) route
best_route_makes reach zones n zone walks offers Drops within same is = absurd is
best_route_makes reach zones n zone walks offers (Towards target) within same is =
    let here : reach target.zone ≡ walks = ap reach is.zone_is ∙ same in
    record {
      target = record {
        zone = subst (λ (z : ℕ). z < zones) (sym is.zone_is) within;
        reached = subst (λ (r : Reach). IsReached r target.at) (sym here) is.reached;
      };
      makes = λ e to. record {
        hops = to.hops;
        forwards = to.is;
        are = is.best to.hops (subst (λ (r : Reach). AreHopsTo r target.at n to.hops) here to.are);
      };
    }
best_route_makes reach zones n zone walks offers (Through hops) within same is = record {
  target = tt;
  makes = λ e made. record { hops = hops; forwards = made; are = is };
}

-- what holds of the hops towards the best offers holds of those of the route
pub best_route_is : (reach : ℕ → Reach) (zones n zone : ℕ) (walks : Reach) (offers : List Offer) (none : Type 0) (some : List ℕ → Type 0) → zone < zones →
    reach zone ≡ walks →
    ((hops : Option (List ℕ)) → MatchOption hops (NoneTotals walks offers) (AreBestHops walks offers n) → MatchOption hops none some) →
    (found : Option Route) → MatchOption found (NoneTotals walks offers) (IsBestRoute walks offers zone n) →
    MatchOption found none (IsRouteFor reach zones n (ForwardsBy some))
best_route_is reach zones n zone walks offers none some within same follows None is = follows None is
best_route_is reach zones n zone walks offers none some within same follows (Some route) is =
    route_weaker reach zones n (ForwardsBy (AreBestHops walks offers n)) (ForwardsBy some) route
    (λ e by. record { hops = by.hops; forwards = by.forwards; are = follows (Some by.hops) by.are })
    (best_route_makes reach zones n zone walks offers route within same is)

-- a route whose hops make entries is a route for these
pub route_by_hops : (reach : ℕ → Reach) (zones n : ℕ) (some : List ℕ → Type 0) (entry : Entry → Type 0) (route : Route) →
    ((hops : List ℕ) → some hops → entry (Via hops)) → IsRouteFor reach zones n (ForwardsBy some) route → IsRouteFor reach zones n entry route
route_by_hops reach zones n some entry route more is =
    route_weaker reach zones n (ForwardsBy some) entry route (λ e by. subst entry (sym by.forwards) (more by.hops by.are)) is

-- a route that drops makes the discard entry
pub route_by_discard : (reach : ℕ → Reach) (zones n : ℕ) (entry : Entry → Type 0) → entry Discard → IsRouteFor reach zones n entry Drops
route_by_discard reach zones n entry is = record { target = tt; makes = λ e made. subst entry (sym made) is }
