-- Arcs from a vertex to itself change no least cost.
use Rattle.std.proofs.Common.{◌≡◌, ◌≢◌, ℕ, ◌≤◌, ◌↔◌, List, [], ◌∷◌, Option, sym, subst, inl, inr, arith}
use Rattle.std.proofs.lemmas.Bool.{cases_eq}
use Rattle.walk_core.specs.Walks.{Arcs, Leg, Walks, walk_cost, LeastCost}
use Rattle.walk_core.specs.steps.Rows.{AreLeastDistances}
use Rattle.walk_core.proofs.WalkLaws.{least_cost_at_most, least_cost_from, walks_over}

-- the loose relation has the arcs, and besides them at most arcs from a vertex to itself
pub record AddsLoops (arc loose : Arcs) : Type 0 where
  pub kept : (u v c : ℕ) → arc u v c → loose u v c
  pub others : (u v c : ℕ) → loose u v c → u ≢ v → arc u v c

-- a walk without its loops, which costs no more
pub record IsStraight (arc : Arcs) (u v cost : ℕ) : Type 0 where
  pub legs : List Leg
  pub leads : Walks arc u legs v
  pub most : walk_cost legs ≤ cost

pub straight : (arc loose : Arcs) → AddsLoops arc loose → (u : ℕ) (legs : List Leg) (v : ℕ) → Walks loose u legs v → IsStraight arc u v (walk_cost legs)
straight arc loose adds u [] v leads = record { legs = []; leads = leads; most = omega arith }
straight arc loose adds u (leg ∷ legs) v leads =
    let rest = straight arc loose adds leg.to legs v leads.1 in
    elim (cases_eq u leg.to) [
      | inl same ↦ record {
        legs = rest.legs;
        leads = subst (λ (n : ℕ). Walks arc n rest.legs v) (sym same) rest.leads;
        most = omega (arith, rest.most);
      }
      | inr apart ↦ record {
        legs = leg ∷ rest.legs;
        leads = (adds.others u leg.to leg.cost leads.0 apart, rest.leads);
        most = omega (arith, rest.most);
      }
    ]

-- loops change no least cost
pub least_cost_loops : (arc loose : Arcs) → AddsLoops arc loose → (u v d : ℕ) → LeastCost loose u v d ↔ LeastCost arc u v d
least_cost_loops arc loose adds u v d = (
  λ least.
      let way = straight arc loose adds u least.legs v least.walk.leads in
      let below : (others : List Leg) → Walks arc u others v → d ≤ walk_cost others =
      λ others other. least_cost_at_most least others (walks_over adds.kept u others v other) in
      let cost : walk_cost way.legs ≡ d = omega (arith, way.most, least.costs, below way.legs way.leads) in
      least_cost_from d way.legs way.leads cost below,
  λ least. least_cost_from d least.legs (walks_over adds.kept u least.legs v least.walk.leads) least.costs
      (λ others other.
      let way = straight arc loose adds u others v other in
      omega (arith, way.most, least_cost_at_most least way.legs way.leads)),
)

-- distances over a relation with loops are those without them
pub distances_loops : (arc loose : Arcs) → AddsLoops arc loose → (u : ℕ) (distances : List (Option ℕ)) → AreLeastDistances loose u distances →
    AreLeastDistances arc u distances
distances_loops arc loose adds u distances are = record {
  least = λ v d. (
    λ is. (least_cost_loops arc loose adds u v d).0 ((are.least v d).0 is),
    λ least. (are.least v d).1 ((least_cost_loops arc loose adds u v d).1 least),
  );
  none = λ v. (
    λ is legs leads. (are.none v).0 is legs (walks_over adds.kept u legs v leads),
    λ none. (are.none v).1 (λ legs leads. let way = straight arc loose adds u legs v leads in none way.legs way.leads),
  );
}
