-- First hops by least costs: a first hop is the end of an arc that a least walk goes on from.
use Rattle.std.proofs.Common.{◌≡◌, ℕ, ◌+◌, ◌≤◌, ◌∷◌, refl, subst, arith}
use Rattle.walk_core.specs.Walks.{Arcs, Leg, walk_cost, LeastCost, FirstHop}
use Rattle.walk_core.proofs.WalkLaws.{least_cost_at_most, first_hop_has_least_cost, least_walk_has_least_cost}

-- an arc from u to h begins a least walk to v
pub record BeginsLeast (arc : Arcs) (u v h : ℕ) : Type 0 where
  pub cost : ℕ
  pub beyond : ℕ
  pub over : arc u h cost
  pub rest : LeastCost arc h v beyond
  pub whole : LeastCost arc u v (cost + beyond)

-- a first hop is the end of an arc that begins a least walk
pub begins_least_from_first_hop : {arc : Arcs} {u v h : ℕ} → FirstHop arc u v h → BeginsLeast arc u v h
begins_least_from_first_hop {arc} {u} {v} {h} hop =
    let P : ℕ → Type 0 = λ n. BeginsLeast arc u v n in
    let at_leg : BeginsLeast arc u v hop.leg.to = record {
      cost = hop.leg.cost;
      beyond = walk_cost hop.legs;
      over = hop.walk.leads.0;
      rest = least_walk_has_least_cost (record {
        leads = hop.walk.leads.1;
        least = λ others leads.
            let no_less : hop.leg.cost + walk_cost hop.legs ≤ hop.leg.cost + walk_cost others =
            hop.walk.least (hop.leg ∷ others) (hop.walk.leads.0, leads) in
            omega arith;
      });
      whole = first_hop_has_least_cost hop;
    } in
    subst P hop.begins at_leg

-- the end of an arc that begins a least walk is a first hop
pub first_hop_from_begins_least : {arc : Arcs} {u v h : ℕ} → BeginsLeast arc u v h → FirstHop arc u v h
first_hop_from_begins_least {arc} {u} {v} {h} begins =
    let first : Leg = record { to = h; cost = begins.cost } in
    let rest : walk_cost begins.rest.legs ≡ begins.beyond = begins.rest.costs in
    record {
      leg = first;
      legs = begins.rest.legs;
      walk = record {
        leads = (begins.over, begins.rest.walk.leads);
        least = λ others leads.
            let no_less : begins.cost + begins.beyond ≤ walk_cost others =
            least_cost_at_most begins.whole others leads in
            omega arith;
      };
      begins = refl;
    }
