-- Laws of walks, least costs, first hops and best offers, over any arc relation.
use Rattle.std.proofs.lemmas.Grind.{common_steps}
use Rattle.std.proofs.Common.{◌≡◌, ℕ, ◌≤◌, ◌↔◌, List, [], ◌∷◌, refl, arith}
use Rattle.walk_core.specs.Walks.{Arcs, Leg, Walks, walk_cost, LeastWalk, LeastCost, FirstHop}
use Rattle.walk_core.specs.Reach.{Reach, AreLeastWalks}
use Rattle.walk_core.specs.Offers.{Offers, OfferCosts, BestCost, BestHop}

-- a least cost is at most what each walk costs
pub least_cost_at_most : {arc : Arcs} {u v d : ℕ} → LeastCost arc u v d → (legs : List Leg) → Walks arc u legs v → d ≤ walk_cost legs
least_cost_at_most {arc} {u} {v} {d} least legs leads = grind (arith, common_steps)

-- a walk of this cost that no walk undercuts makes it the least cost
pub least_cost_from : {arc : Arcs} {u v : ℕ} (d : ℕ) (legs : List Leg) → Walks arc u legs v → walk_cost legs ≡ d →
    ((others : List Leg) → Walks arc u others v → d ≤ walk_cost others) → LeastCost arc u v d
least_cost_from {arc} {u} {v} d legs leads costs below = grind (arith, common_steps)

-- there is one least cost
pub least_cost_unique : {arc : Arcs} {u v d e : ℕ} → LeastCost arc u v d → LeastCost arc u v e → d ≡ e
least_cost_unique {arc} {u} {v} {d} {e} one other = grind (arith, common_steps, least_cost_at_most)

-- a least walk has the least cost
pub least_walk_has_least_cost : {arc : Arcs} {u v : ℕ} {legs : List Leg} → LeastWalk arc u legs v → LeastCost arc u v (walk_cost legs)
least_walk_has_least_cost {arc} {u} {v} {legs} walk = record { legs = legs; walk = walk; costs = refl }

-- where there is a first hop, its least walk has the least cost
pub first_hop_has_least_cost : {arc : Arcs} {u v h : ℕ} (hop : FirstHop arc u v h) → LeastCost arc u v (walk_cost (hop.leg ∷ hop.legs))
first_hop_has_least_cost hop = least_walk_has_least_cost hop.walk

-- a first hop is the end of an arc
pub first_hop_is_arc : {arc : Arcs} {u v h : ℕ} → FirstHop arc u v h → (c : ℕ) × arc u h c
first_hop_is_arc {arc} {u} {v} {h} hop = grind (arith, common_steps)

-- there is one best cost
pub best_cost_unique : {arc : Arcs} {offer : Offers} {u c d : ℕ} → BestCost arc offer u c → BestCost arc offer u d → c ≡ d
best_cost_unique {arc} {offer} {u} {c} {d} one other =
    let down : c ≤ d = one.least other.at d other.attained in
    let up : d ≤ c = other.least one.at c one.attained in
    omega arith

-- a first hop towards a best offer is the end of an arc
pub best_hop_is_arc : {arc : Arcs} {offer : Offers} {u h : ℕ} → BestHop arc offer u h → (c : ℕ) × arc u h c
best_hop_is_arc best = first_hop_is_arc best.hop

-- two arc relations hold of the same triples
abbrev pub SameArcs : Arcs → Arcs → Type 0
SameArcs arc other = (a b c : ℕ) → arc a b c ↔ other a b c

-- the same offers are made
abbrev pub SameOffers : Offers → Offers → Type 0
SameOffers offer other = (at asks : ℕ) → offer at asks ↔ other at asks

pub same_arcs_sym : {arc other : Arcs} → SameArcs arc other → SameArcs other arc
same_arcs_sym same a b c = ((same a b c).1, (same a b c).0)

pub same_offers_sym : {offer other : Offers} → SameOffers offer other → SameOffers other offer
same_offers_sym same at asks = ((same at asks).1, (same at asks).0)

-- a walk is a walk over every relation that holds wherever this one does
pub walks_over : {arc other : Arcs} → ((a b c : ℕ) → arc a b c → other a b c) →
    (u : ℕ) (legs : List Leg) (v : ℕ) → Walks arc u legs v → Walks other u legs v
walks_over over u [] v leads = leads
walks_over over u (leg ∷ legs) v leads = (over u leg.to leg.cost (leads.0), walks_over over leg.to legs v (leads.1))

pub least_walk_over : {arc other : Arcs} {u v : ℕ} {legs : List Leg} → SameArcs arc other → LeastWalk arc u legs v → LeastWalk other u legs v
least_walk_over {arc} {other} {u} {v} {legs} same walk = grind (arith, common_steps, walks_over)

-- least costs are the same over the same arcs
pub least_cost_over : {arc other : Arcs} {u v d : ℕ} → SameArcs arc other → LeastCost arc u v d → LeastCost other u v d
least_cost_over same least = record {
  legs = least.legs;
  walk = least_walk_over same least.walk;
  costs = least.costs;
}

-- first hops are the same over the same arcs
pub first_hop_over : {arc other : Arcs} {u v h : ℕ} → SameArcs arc other → FirstHop arc u v h → FirstHop other u v h
first_hop_over same hop = record {
  leg = hop.leg;
  legs = hop.legs;
  walk = least_walk_over same hop.walk;
  begins = hop.begins;
}

-- what an offer costs is the same over the same arcs and offers
pub offer_costs_over : {arc other : Arcs} {offer others : Offers} {u at c : ℕ} →
    SameArcs arc other → SameOffers offer others → OfferCosts arc offer u at c → OfferCosts other others u at c
offer_costs_over {at = at} same offers costs = record {
  asks = costs.asks;
  walk = costs.walk;
  offered = (offers at costs.asks).0 costs.offered;
  reached = least_cost_over same costs.reached;
  costs = costs.costs;
}

-- best costs are the same over the same arcs and offers
pub best_cost_over : {arc other : Arcs} {offer others : Offers} {u c : ℕ} → SameArcs arc other →
    SameOffers offer others → BestCost arc offer u c → BestCost other others u c
best_cost_over same offers best = record {
  at = best.at;
  attained = offer_costs_over same offers best.attained;
  least = λ at less costs.
      best.least at less (offer_costs_over (same_arcs_sym same) (same_offers_sym offers) costs);
}

pub best_cost_same : {arc other : Arcs} {offer others : Offers} → SameArcs arc other → SameOffers offer others → (u c : ℕ) →
    BestCost arc offer u c ↔ BestCost other others u c
best_cost_same same offers u c = (best_cost_over same offers, best_cost_over (same_arcs_sym same) (same_offers_sym offers))

-- what is known of the least walks is the same over the same arcs
pub least_walks_over : {arc other : Arcs} {root : ℕ} {reach : Reach} → SameArcs arc other → AreLeastWalks arc root reach → AreLeastWalks other root reach
least_walks_over {arc} {other} {root} {reach} same walks = record {
  distances = λ v d. (
    λ is. least_cost_over same ((walks.distances v d).0 is),
    λ least. (walks.distances v d).1 (least_cost_over (same_arcs_sym same) least),
  );
  unreached = λ v. (
    λ is legs leads.
        (walks.unreached v).0 is legs (walks_over (λ a b c. (same a b c).1) root legs v leads),
    λ none. (walks.unreached v).1 (λ legs leads.
        none legs (walks_over (λ a b c. (same a b c).0) root legs v leads)),
  );
  hops = λ v h. (
    λ has. first_hop_over same ((walks.hops v h).0 has),
    λ hop. (walks.hops v h).1 (first_hop_over (same_arcs_sym same) hop),
  );
}
