-- Departures and first hops, one more at a time, and what they come to.
use Rattle.std.proofs.Common.{arith}
use Rattle.std.proofs.lemmas.Grind.{common_steps}
use Rattle.std.proofs.Common.{◌≡◌, ℕ, ◌+◌, ◌<◌, ◌↔◌, List, [], ◌∷◌, ◌++◌, Option, Some, Contains, sym, subst}
use Rattle.std.proofs.lemmas.List.Elements.{Contains-push, Contains-append_left, Contains-push_cases}
use Rattle.walk_core.specs.declared.hops.Departure.{Departure}
use Rattle.walk_core.specs.Walks.{Arcs, FirstHop}
use Rattle.walk_core.specs.Distances.{distance_at}
use Rattle.walk_core.specs.steps.Rows.{distance_between, AreLeastDistances, KnowsEnds}
use Rattle.walk_core.specs.steps.Departures.{LeavesTo, AreDepartures, BeginsAt}
use Rattle.walk_core.proofs.HopLaws.{BeginsLeast, begins_least_from_first_hop, first_hop_from_begins_least}

pub departs_more : (arc : Arcs) (root : ℕ) (ds : List Departure) (d : Departure) →
    ((e : Departure) → Contains ds e → arc root e.to e.cost) → arc root d.to d.cost → (e : Departure) → Contains (ds ++ d ∷ []) e → arc root e.to e.cost
departs_more arc root ds d each departs e among = grind (arith, common_steps, Contains-push_cases)

pub leaves_more : (ends : ℕ → ℕ × ℕ) (ds : List Departure) (d : Departure) (i : ℕ) →
    ((j : ℕ) → j < i → LeavesTo ds (ends j).0 (ends j).1) → d.to ≡ (ends i).0 → d.cost ≡ (ends i).1 →
    (j : ℕ) → j < i + 1 → LeavesTo (ds ++ d ∷ []) (ends j).0 (ends j).1
leaves_more ends ds d i every leads costs = grind (arith, common_steps, Contains-append_left, Contains-push)

-- the first hops are the ends of departures that begin
pub begins_at_is_first_hop : (arc : Arcs) (root : ℕ) (ds : List Departure) (rows : List (List (Option ℕ))) (distances : List (Option ℕ))
    (v h : ℕ) → AreDepartures arc root ds → KnowsEnds arc root rows → AreLeastDistances arc root distances →
    BeginsAt ds rows v (distance_at distances v) h ↔ FirstHop arc root v h
begins_at_is_first_hop arc root ds rows distances v h departures ends least = (
  λ at.
      let d : Departure = at.thing in
      let over : arc root d.to d.cost = departures.each d at.among in
      let P : ℕ → Type 0 = λ n. FirstHop arc root v n in
      let begins : BeginsLeast arc root v d.to = record {
        cost = d.cost;
        beyond = at.leads.0.beyond;
        over = over;
        rest = ((ends d.to d.cost over).least v at.leads.0.beyond).0 at.leads.0.far;
        whole = (least.least v (d.cost + at.leads.0.beyond)).0 at.leads.0.whole;
      } in
      subst P at.leads.1 (first_hop_from_begins_least begins),
  λ hop.
      let begins = begins_least_from_first_hop hop in
      let leaves = departures.every h begins.cost begins.over in
      let far : distance_between rows h v ≡ Some begins.beyond =
      ((ends h begins.cost begins.over).least v begins.beyond).1 begins.rest in
      let At : ℕ → Type 0 = λ n. distance_between rows n v ≡ Some begins.beyond in
      let whole : distance_at distances v ≡ Some (begins.cost + begins.beyond) =
      (least.least v (begins.cost + begins.beyond)).1 begins.whole in
      record {
        thing = leaves.departure;
        among = leaves.among;
        leads = (
          record { beyond = begins.beyond; far = subst At (sym leaves.leads) far; whole = rw leaves.costs whole },
          leaves.leads,
        );
      },
)
