-- Alike offers have the same routes: what they ask in all differs by one constant, so the same of them are the best.
use Rattle.std.proofs.lemmas.Grind.{common_steps}
use Rattle.std.proofs.Common.{◌≡◌, ℕ, ◌+◌, ◌≤◌, ◌↔◌, ◌⊎◌, inl, inr, List, [], ◌∷◌, map, refl, sym, ap, subst, ◌∙◌, arith}
use Rattle.std.specs.List.{Contains}
use Rattle.walk_core.specs.Walks.{Arcs}
use Rattle.walk_core.specs.Offers.{Offers, OfferCosts, BestCost, BestHop}
use Rattle.walk_core.specs.BestOffers.{ListsOffer}
use Rattle.walk_core.specs.declared.offers.Offer.{Offer}
use Rattle.route_tables.specs.AlikeOffers.{AreAlikeOffers, AreDearerBy, dearer_by}
use Rattle.route_tables.proofs.ListFacts.{contains_map, map_source}

-- the second offers are the first ones, each asking this much more
pub record RiseBy (more : ℕ) (one other : Offers) : Type 0 where
  pub there : (at asks : ℕ) → one at asks → other at (asks + more)
  pub back : (at asks : ℕ) → other at asks → (less : ℕ) × one at less × (less + more ≡ asks)

-- what two kinds of offers ask differs by one constant
pub record AskAlike (one other : Offers) : Type 0 where
  pub more : ℕ
  pub rise : RiseBy more one other ⊎ RiseBy more other one

-- One kind is the dearer one

costs_there : (arc : Arcs) (u more : ℕ) (one other : Offers) → RiseBy more one other → (at c : ℕ) → OfferCosts arc one u at c →
    OfferCosts arc other u at (c + more)
costs_there arc u more one other rise at c costs = grind (arith, common_steps)

costs_back : (arc : Arcs) (u more : ℕ) (one other : Offers) → RiseBy more one other → (at c : ℕ) → OfferCosts arc other u at c →
    (less : ℕ) × OfferCosts arc one u at less × (less + more ≡ c)
costs_back arc u more one other rise at c costs =
    let asked = rise.back at costs.asks costs.offered in (
      costs.walk + asked.0,
      record { asks = asked.0; walk = costs.walk; offered = asked.1; reached = costs.reached; costs = refl },
      omega (arith, asked.2, costs.costs),
    )

best_there : (arc : Arcs) (u more : ℕ) (one other : Offers) → RiseBy more one other → (c : ℕ) → BestCost arc one u c → BestCost arc other u (c + more)
best_there arc u more one other rise c best = record {
  at = best.at;
  attained = costs_there arc u more one other rise best.at c best.attained;
  least = λ at cost costs.
      let less = costs_back arc u more one other rise at cost costs in
      let below : c ≤ less.0 = best.least at less.0 less.1 in
      omega (arith, less.2);
}

best_back : (arc : Arcs) (u more : ℕ) (one other : Offers) → RiseBy more one other → (c : ℕ) → BestCost arc other u c →
    (less : ℕ) × BestCost arc one u less × (less + more ≡ c)
best_back arc u more one other rise c best =
    let least = costs_back arc u more one other rise best.at c best.attained in (
      least.0,
      record {
        at = best.at;
        attained = least.1;
        least = λ at cost costs.
            let below : c ≤ cost + more = best.least at (cost + more) (costs_there arc u more one other rise at cost costs) in
            omega (arith, least.2);
      },
      least.2,
    )

hop_there : (arc : Arcs) (u more : ℕ) (one other : Offers) → RiseBy more one other → (h : ℕ) → BestHop arc one u h → BestHop arc other u h
hop_there arc u more one other rise h hop = record {
  cost = hop.cost + more;
  best = best_there arc u more one other rise hop.cost hop.best;
  at = hop.at;
  attained = costs_there arc u more one other rise hop.at hop.cost hop.attained;
  hop = hop.hop;
}

hop_back : (arc : Arcs) (u more : ℕ) (one other : Offers) → RiseBy more one other → (h : ℕ) → BestHop arc other u h → BestHop arc one u h
hop_back arc u more one other rise h hop =
    let best = best_back arc u more one other rise hop.cost hop.best in
    let costs = costs_back arc u more one other rise hop.at hop.cost hop.attained in
    let same : costs.0 ≡ best.0 = omega (arith, best.2, costs.2) in
    record {
      cost = best.0;
      best = best.1;
      at = hop.at;
      attained = subst (λ (c : ℕ). OfferCosts arc one u hop.at c) same costs.1;
      hop = hop.hop;
    }

-- Either kind is

pub alike_turned : {one other : Offers} → AskAlike one other → AskAlike other one
alike_turned alike = record { more = alike.more; rise = elim alike.rise [ inl up ↦ inr up | inr down ↦ inl down ] }

-- where one has a best cost, the other has one
pub alike_cost : (arc : Arcs) (u : ℕ) (one other : Offers) → AskAlike one other → (c : ℕ) → BestCost arc one u c → (cost : ℕ) × BestCost arc other u cost
alike_cost arc u one other alike c best = elim alike.rise [
  | inl up ↦ (c + alike.more, best_there arc u alike.more one other up c best)
  | inr down ↦ let least = best_back arc u alike.more other one down c best in (least.0, least.1)
]

-- and they have the same best hops
pub alike_hop : (arc : Arcs) (u : ℕ) (one other : Offers) → AskAlike one other → (h : ℕ) → BestHop arc one u h → BestHop arc other u h
alike_hop arc u one other alike h hop = grind (arith, common_steps, hop_back, hop_there)

-- those of some vertices alone are alike too
rise_among : (among : ℕ → Type 0) (more : ℕ) (one other fewer others : Offers) → ((at asks : ℕ) → fewer at asks ↔ (among at × one at asks)) →
    ((at asks : ℕ) → others at asks ↔ (among at × other at asks)) → RiseBy more one other → RiseBy more fewer others
rise_among among more one other fewer others of_one of_other rise = grind (arith, common_steps)

pub alike_among : (among : ℕ → Type 0) (one other fewer others : Offers) → ((at asks : ℕ) → fewer at asks ↔ (among at × one at asks)) →
    ((at asks : ℕ) → others at asks ↔ (among at × other at asks)) → AskAlike one other → AskAlike fewer others
alike_among among one other fewer others of_one of_other alike = grind (arith, common_steps, rise_among)

-- Lists of offers

-- offers that ask nothing more are the same
pub dearer_by_nothing : (offers : List Offer) → map (dearer_by 0) offers ≡ offers
dearer_by_nothing [] = refl
dearer_by_nothing (o ∷ offers) =
    let asks : o.asks + 0 ≡ o.asks = omega arith in
    ap (λ (a : ℕ). record { at = o.at; asks = a } ∷ map (dearer_by 0) offers) asks ∙ ap (λ (l : List Offer). o ∷ l) (dearer_by_nothing offers)

rise_of_lists : (more : ℕ) (one other : Offers) (ones others : List Offer) → ((at asks : ℕ) → ListsOffer ones at asks ↔ one at asks) →
    ((at asks : ℕ) → ListsOffer others at asks ↔ other at asks) → AreDearerBy more ones others → RiseBy more one other
rise_of_lists more one other ones others are_ones are_others dearer = record {
  there = λ at asks is.
      let listed : ListsOffer ones at asks = (are_ones at asks).1 is in
      (are_others at (asks + more)).0 (record {
        offer = dearer_by more listed.offer;
        among = subst (λ (l : List Offer). Contains l (dearer_by more listed.offer)) (sym dearer)
            (contains_map (dearer_by more) ones listed.offer listed.among);
        made = listed.made;
        asked = ap (λ (a : ℕ). a + more) listed.asked;
      });
  back = λ at asks is.
      let listed : ListsOffer others at asks = (are_others at asks).1 is in
      let from = map_source (dearer_by more) ones listed.offer listed.offer (subst (λ (l : List Offer). Contains l listed.offer) dearer listed.among) in (
        from.0.asks,
        (are_ones at from.0.asks).0 (record {
          offer = from.0;
          among = from.1;
          made = ap (λ (o : Offer). o.at) from.2 ∙ listed.made;
          asked = refl;
        }),
        ap (λ (o : Offer). o.asks) from.2 ∙ listed.asked,
      );
}

-- alike lists hold alike offers
pub alike_lists : (one other : Offers) (ones others : List Offer) → ((at asks : ℕ) → ListsOffer ones at asks ↔ one at asks) →
    ((at asks : ℕ) → ListsOffer others at asks ↔ other at asks) → AreAlikeOffers ones others → AskAlike one other
alike_lists one other ones others are_ones are_others alike = record {
  more = alike.more;
  rise = elim alike.dearer [
    | inl up ↦ inl (rise_of_lists alike.more one other ones others are_ones are_others up)
    | inr down ↦ inr (rise_of_lists alike.more other one others ones are_others are_ones down)
  ];
}
