-- Arcs from the root, and which of them begin a least walk, by the distances from where they lead.
use Rattle.std.specs.Prelude.{◌≡◌, ℕ, ◌+◌, List, Option, Some, Contains}
use Rattle.walk_core.specs.declared.hops.Departure.{Departure}
use Rattle.walk_core.specs.Walks.{Arcs}
use Rattle.walk_core.specs.steps.Rows.{distance_between}
use Rattle.walk_core.specs.steps.Adding.{SomeLeadsTo}

-- one of the departures is the arc to h at this cost
pub record LeavesTo (departures : List Departure) (h cost : ℕ) : Type 0 where
  pub departure : Departure
  pub among : Contains departures departure
  pub leads : departure.to ≡ h
  pub costs : departure.cost ≡ cost

-- the departures are the arcs from the root, every one of them
pub record AreDepartures (arc : Arcs) (root : ℕ) (departures : List Departure) : Type 0 where
  pub each : (departure : Departure) → Contains departures departure → arc root departure.to departure.cost
  pub every : (h cost : ℕ) → arc root h cost → LeavesTo departures h cost

-- v is as far from the root as the departure costs and its end is from v, by the rows of distances
pub record Begins (rows : List (List (Option ℕ))) (departure : Departure) (v : ℕ) (distance : Option ℕ) : Type 0 where
  pub beyond : ℕ
  pub far : distance_between rows departure.to v ≡ Some beyond
  pub whole : distance ≡ Some (departure.cost + beyond)

-- a departure to h begins a way to v of this distance
abbrev pub BeginsAt : List Departure → List (List (Option ℕ)) → ℕ → Option ℕ → ℕ → Type 0
BeginsAt departures rows v distance h = SomeLeadsTo (λ departure n. Begins rows departure v distance × (departure.to ≡ n)) departures h
