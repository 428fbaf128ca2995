-- What is known of the least walks from one vertex.
use Rattle.std.specs.Prelude.{◌≡◌, ℕ, ◌*◌, ◌^◌, ◌<◌, List, [], Option, Some, None, slice_index_or, Contains, length, slice_get, ◌↔◌}
use Rattle.walk_core.specs.Walks.{Arcs, Leg, Walks, LeastCost, FirstHop}
use Rattle.walk_core.specs.Distances.{distance_at}

-- the distance of each vertex from the root, and its first hops, by the number of the vertex
pub record Reach : Type 0 where
  pub distances : List (Option ℕ)
  pub hops : List (List ℕ)

-- the distance of v, and None where there is none
abbrev pub distance_of : Reach → ℕ → Option ℕ
distance_of reach v = distance_at reach.distances v

-- the first hops towards v
abbrev pub listed_hops_of : Reach → ℕ → List ℕ
listed_hops_of reach v = slice_index_or reach.hops v []

-- h is among the first hops towards v
abbrev pub HasHop : Reach → ℕ → ℕ → Type 0
HasHop reach v h = Contains (listed_hops_of reach v) h

-- the distances are the least costs of walks from the root, none exactly where no walk leads, and
-- the hops are those with which a least walk begins
pub record AreLeastWalks (arc : Arcs) (root : ℕ) (reach : Reach) : Type 0 where
  pub distances : (v d : ℕ) → (distance_of reach v ≡ Some d) ↔ LeastCost arc root v d
  pub unreached : (v : ℕ) →
      (distance_of reach v ≡ None) ↔ ((legs : List Leg) → Walks arc root legs v → ⊥)
  pub hops : (v h : ℕ) → HasHop reach v h ↔ FirstHop arc root v h

-- a distance is at most the cost of one arc for each of this many vertices
abbrev pub AreNear : ℕ → Reach → Type 0
AreNear count reach = (v d : ℕ) → distance_of reach v ≡ Some d → d < count * 2 ^ 32

-- the least walks from each vertex below n, over a graph of this many vertices
pub record AreWalksBelow (arc : Arcs) (count n : ℕ) (walks : List Reach) : Type 0 where
  pub long : length walks ≡ n
  pub least : (u : ℕ) (reach : Reach) → slice_get walks u ≡ Some reach → AreLeastWalks arc u reach
  pub near : (u : ℕ) (reach : Reach) → slice_get walks u ≡ Some reach → AreNear count reach
