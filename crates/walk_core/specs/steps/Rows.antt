-- Rows of distances, as they are kept.
use Rattle.std.specs.Prelude.{ℕ, List, Option, ◌≡◌, ◌*◌, ◌^◌, ◌<◌, ◌≤◌, [], length, Some, None, slice_index_or, ◌↔◌}
use Rattle.walk_core.specs.declared.rows.Kept.{Kept}
use Rattle.walk_core.specs.declared.rows.Kept.TheVariants.{Lone, Row}
use Rattle.walk_core.specs.KeptWalks.{lone_row}
use Rattle.walk_core.specs.Walks.{Arcs, Leg, Walks, LeastCost}
use Rattle.walk_core.specs.Distances.{distance_at}

-- each vertex has the least cost of a walk from u there, and none exactly where no walk leads there
pub record AreLeastDistances (arc : Arcs) (u : ℕ) (distances : List (Option ℕ)) : Type 0 where
  pub least : (v d : ℕ) → (distance_at distances v ≡ Some d) ↔ LeastCost arc u v d
  pub none : (v : ℕ) → (distance_at distances v ≡ None) ↔ ((legs : List Leg) → Walks arc u legs v → ⊥)

-- the distance from u to v by these rows, one for each vertex
abbrev pub distance_between : List (List (Option ℕ)) → ℕ → ℕ → Option ℕ
distance_between rows u v = distance_at (slice_index_or rows u []) v

-- the distances from u in a graph of this many vertices, none above the cost of one arc for each of them
pub record IsDistanceRow (arc : Arcs) (count u : ℕ) (distances : List (Option ℕ)) : Type 0 where
  pub least : AreLeastDistances arc u distances
  pub within : length distances ≤ count
  pub near : (v d : ℕ) → distance_at distances v ≡ Some d → d < count * 2 ^ 32

-- the distances from each vertex below n
pub record AreDistanceRows (arc : Arcs) (count n : ℕ) (rows : List (List (Option ℕ))) : Type 0 where
  pub long : length rows ≡ n
  pub each : (u : ℕ) → u < n → IsDistanceRow arc count u (slice_index_or rows u [])

-- the rows of the vertices that arcs from the root lead to are their distances
abbrev pub KnowsEnds : Arcs → ℕ → List (List (Option ℕ)) → Type 0
KnowsEnds arc root rows = (h cost : ℕ) → arc root h cost → AreLeastDistances arc h (slice_index_or rows h [])

-- the distances that are kept
abbrev pub kept_row : Kept → List (Option ℕ)
kept_row (Lone root) = lone_row root
kept_row (Row all) = all.items
