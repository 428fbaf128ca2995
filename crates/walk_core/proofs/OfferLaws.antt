-- The best of a list of offers, element by element, and what it is over all walks.
use Rattle.std.proofs.Common.{◌≡◌, ℕ, ◌↔◌, ◌+◌, ◌<◌, List, [], Option, Some, None, MatchOption, refl, sym, ap, subst}
use Rattle.std.proofs.Common.{◌∙◌}
use Rattle.std.specs.List.{Contains}
use Rattle.std.specs.List.Sorted.{IsStrictlyIncreasing}
use Rattle.walk_core.specs.Walks.{Arcs}
use Rattle.walk_core.specs.Offers.{Offers, OfferCosts, BestCost, BestHop}
use Rattle.walk_core.specs.Reach.{Reach, distance_of, HasHop, AreLeastWalks}
use Rattle.walk_core.specs.BestOffers.{ListsOffer, total_with, total_towards, HasTotal, NoneTotals, IsBestTotal, IsHopTowards}
use Rattle.walk_core.specs.steps.BestOver.{IsHopOver}
use Rattle.walk_core.specs.BestOffers.{AreHopsTowards}
use Rattle.walk_core.specs.declared.offers.Offer.{Offer}
use Rattle.walk_core.specs.steps.Adding.{AddsNumbers, SomeLeadsTo}
use Rattle.walk_core.specs.steps.Cheapest.{HasCost, IsCheapestCost}
use Rattle.walk_core.proofs.AddingLaws.{adds_to_none}
use Rattle.walk_core.proofs.WalkLaws.{best_cost_unique}

-- the cheapest of the offers is the best of them
pub best_of_cheapest : (reach : Reach) (offers : List Offer) (best : Option ℕ) → IsCheapestCost (total_towards reach) offers best →
    MatchOption best (NoneTotals reach offers) (IsBestTotal reach offers)
best_of_cheapest reach offers best = go best
  where
    cost : (c : ℕ) → HasTotal reach offers c → HasCost (total_towards reach) offers c
    cost c has = record { thing = has.offer; among = has.among; costs = has.total }

    go : (b : Option ℕ) → IsCheapestCost (total_towards reach) offers b → MatchOption b (NoneTotals reach offers) (IsBestTotal reach offers)
    go None none = λ c has. none c (cost c has)
    go (Some x) is = record {
      attained = record { offer = is.attained.thing; among = is.attained.among; total = is.attained.costs };
      least = λ c has. is.least c (cost c has);
    }

-- a total is the cost of an offer over the least walks
pub total_is_cost : (arc : Arcs) (u : ℕ) (reach : Reach) (offer : Offers) (offers : List Offer) (c : ℕ) → AreLeastWalks arc u reach →
    ((at asks : ℕ) → ListsOffer offers at asks ↔ offer at asks) → HasTotal reach offers c ↔ ((at : ℕ) × OfferCosts arc offer u at c)
total_is_cost arc u reach offer offers c walks same = (there, back)
  where
    distance_there : (d : Option ℕ) (asks cost : ℕ) → total_with d asks ≡ Some cost → (n : ℕ) × (d ≡ Some n) × (n + asks ≡ cost)
    distance_there None asks cost is = absurd (let k : None ≡ Some cost = is in cc)
    distance_there (Some n) asks cost is = (n, refl, let k : Some (n + asks) ≡ Some cost = is in cc)

    there : HasTotal reach offers c → (at : ℕ) × OfferCosts arc offer u at c
    there has =
        let parts = distance_there (distance_of reach has.offer.at) has.offer.asks c has.total in (
          has.offer.at,
          record {
            asks = has.offer.asks;
            walk = parts.0;
            offered = (same has.offer.at has.offer.asks).0 (record { offer = has.offer; among = has.among; made = refl; asked = refl });
            reached = (walks.distances has.offer.at parts.0).0 parts.1;
            costs = parts.2;
          },
        )

    back : (at : ℕ) × OfferCosts arc offer u at c → HasTotal reach offers c
    back (at, costs) =
        let listed : ListsOffer offers at costs.asks = (same at costs.asks).1 costs.offered in
        let far : distance_of reach at ≡ Some costs.walk = (walks.distances at costs.walk).1 costs.reached in
        let far_here : distance_of reach listed.offer.at ≡ Some costs.walk = ap (λ (a : ℕ). distance_of reach a) listed.made ∙ far in
        record {
          offer = listed.offer;
          among = listed.among;
          total = ap (λ (d : Option ℕ). total_with d listed.offer.asks) far_here ∙ ap (λ (a : ℕ). Some (costs.walk + a)) listed.asked ∙
              ap (λ (a : ℕ). Some a) costs.costs;
        }

-- the best total of listed offers is the best cost of these offers
pub best_total_is_best_cost : (arc : Arcs) (u : ℕ) (reach : Reach) (offer : Offers) (offers : List Offer) (c : ℕ) → AreLeastWalks arc u reach →
    ((at asks : ℕ) → ListsOffer offers at asks ↔ offer at asks) → IsBestTotal reach offers c ↔ BestCost arc offer u c
best_total_is_best_cost arc u reach offer offers c walks same = (
  (λ best. let at = (total_is_cost arc u reach offer offers c walks same).0 best.attained in record {
    at = at.0;
    attained = at.1;
    least = λ other less costs. best.least less ((total_is_cost arc u reach offer offers less walks same).1 (other, costs));
  }),
  (λ best. record {
    attained = (total_is_cost arc u reach offer offers c walks same).1 (best.at, best.attained);
    least = λ less has. let at = (total_is_cost arc u reach offer offers less walks same).0 has in best.least at.0 less at.1;
  }),
)

-- where no listed offer is reached there is no best cost
pub none_totals_no_best : (arc : Arcs) (u : ℕ) (reach : Reach) (offer : Offers) (offers : List Offer) → AreLeastWalks arc u reach →
    ((at asks : ℕ) → ListsOffer offers at asks ↔ offer at asks) → NoneTotals reach offers → (c : ℕ) → BestCost arc offer u c → ⊥
none_totals_no_best arc u reach offer offers walks same none c best =
    none c ((total_is_cost arc u reach offer offers c walks same).1 (best.at, best.attained))

-- the hops towards the offers of the best total are the first hops of the best cost
pub hop_towards_is_best_hop : (arc : Arcs) (u : ℕ) (reach : Reach) (offer : Offers) (offers : List Offer) (c h : ℕ) → AreLeastWalks arc u reach →
    ((at asks : ℕ) → ListsOffer offers at asks ↔ offer at asks) → BestCost arc offer u c → IsHopTowards reach offers c h ↔ BestHop arc offer u h
unfolding total_is_cost
hop_towards_is_best_hop arc u reach offer offers c h walks same best = (there, back)
  where
    there : IsHopTowards reach offers c h → BestHop arc offer u h
    there towards =
        let has : HasTotal reach offers c = record { offer = towards.offer; among = towards.among; total = towards.total } in
        let at = (total_is_cost arc u reach offer offers c walks same).0 has in
        let costs : OfferCosts arc offer u towards.offer.at c = at.1 in
        record { cost = c; best = best; at = towards.offer.at; attained = costs; hop = (walks.hops towards.offer.at h).0 towards.hop }

    back : BestHop arc offer u h → IsHopTowards reach offers c h
    back hop =
        let same_cost : hop.cost ≡ c = best_cost_unique hop.best best in
        let costs : OfferCosts arc offer u hop.at c = subst (λ (x : ℕ). OfferCosts arc offer u hop.at x) same_cost hop.attained in
        let listed : ListsOffer offers hop.at costs.asks = (same hop.at costs.asks).1 costs.offered in
        let here : HasHop reach listed.offer.at h = subst (λ (a : ℕ). HasHop reach a h) (sym listed.made) ((walks.hops hop.at h).1 hop.hop) in
        let far : distance_of reach listed.offer.at ≡ Some costs.walk = ap (λ (a : ℕ). distance_of reach a) listed.made ∙
        (walks.distances hop.at costs.walk).1 costs.reached in
        record {
          offer = listed.offer;
          among = listed.among;
          total = ap (λ (d : Option ℕ). total_with d listed.offer.asks) far ∙ ap (λ (a : ℕ). Some (costs.walk + a)) listed.asked ∙
              ap (λ (a : ℕ). Some a) costs.costs;
          hop = here;
        }

-- h is one of the hops below n over an offer
abbrev pub IsHopBelow : Reach → ℕ → ℕ → Offer → ℕ → Type 0
IsHopBelow reach cost n offer h = (h < n) × IsHopOver reach offer cost h

-- all of them in order
pub hops_in_order : (reach : Reach) (offers : List Offer) (cost n : ℕ) (hops sorted : List ℕ) →
    AddsNumbers (SomeLeadsTo (IsHopBelow reach cost n) offers) [] hops → IsStrictlyIncreasing sorted → ((x : ℕ) → Contains sorted x ↔ Contains hops x) →
    AreHopsTowards reach offers cost n sorted
hops_in_order reach offers cost n hops sorted adds ascending kept = record {
  ascending = ascending;
  exact = λ h. let are = adds_to_none (SomeLeadsTo (IsHopBelow reach cost n) offers) [] hops refl adds h in (
    λ has. let to = are.0 ((kept h).0 has) in
        (to.leads.0, record { offer = to.thing; among = to.among; total = to.leads.1.total; hop = to.leads.1.hop }),
    λ both. (kept h).1 (are.1 (record {
      thing = both.1.offer;
      among = both.1.among;
      leads = (both.0, record { total = both.1.total; hop = both.1.hop });
    })),
  );
}
