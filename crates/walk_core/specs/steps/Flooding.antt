-- Relaxing the arcs of stale vertices, those onto a whole segment at once.
use Rattle.std.specs.Prelude.{◌≡◌, ℕ, ◌+◌, ◌*◌, ◌<◌, ◌≤◌, ◌⊎◌, ◌∷◌, Bool, true, false, List, Option, Some, Contains, length, slice_index_or, []}
use Rattle.walk_core.specs.BestOffers.{total_with}
use Rattle.walk_core.specs.Distances.{distance_at}
use Rattle.walk_core.specs.Segments.{Sends}
use Rattle.walk_core.specs.steps.Relaxing.{total_weight, IsAtMost, IsTightFrom}
use Rattle.walk_core.specs.declared.segment.Port.{Port}

-- what it costs to come onto a segment by a port
abbrev pub cost_onto : List (Option ℕ) → Port → Option ℕ
cost_onto distances port = total_with (distance_at distances port.vertex) port.cost

-- the segment of this place
abbrev pub segment_at : List (List Port) → ℕ → List Port
segment_at segments place = slice_index_or segments place []

-- no vertex of a port has a distance above this
abbrev pub AreAllAtMost : List (Option ℕ) → List Port → ℕ → Type 0
AreAllAtMost distances ports most = (port : Port) → Contains ports port → IsAtMost (distance_at distances port.vertex) most

-- no arc from a vertex that isn't marked as stale undercuts the distance of its end
pub record AreSettled (segments : List (List Port)) (distances : List (Option ℕ)) (stale : List Bool) : Type 0 where
  pub long : length stale ≡ length distances
  pub tight : (u : ℕ) → slice_index_or stale u true ≡ false → IsTightFrom (Sends segments) u distances

-- no vertex of a segment has a distance above what the segment was entered at
pub record AreEntered (segments : List (List Port)) (distances entries : List (Option ℕ)) : Type 0 where
  pub long : length entries ≡ length segments
  pub each : (i most : ℕ) → distance_at entries i ≡ Some most → AreAllAtMost distances (segment_at segments i) most

-- distances, and which vertices are marked as stale
pub record Marked : Type 0 where
  pub distances : List (Option ℕ)
  pub stale : List Bool

-- how many vertices are marked
abbrev pub stale_count : List Bool → ℕ
stale_count [] = 0
stale_count (true ∷ rest) = 1 + stale_count rest
stale_count (false ∷ rest) = stale_count rest

-- what is left to do, which falls with each distance, whose vertex is marked then, and with each mark that goes
abbrev pub what_is_left : List (Option ℕ) → List Bool → ℕ
what_is_left distances stale = 2 * total_weight distances + stale_count stale

-- this vertex is marked, or it is past the last and none is
pub record IsNextStale (stale : List Bool) (u : ℕ) : Type 0 where
  pub found : u < length stale → slice_index_or stale u false ≡ true
  pub none : length stale ≤ u → (v : ℕ) → v < length stale → slice_index_or stale v true ≡ false

-- distances up to this stay, and each vertex whose distance falls is marked
pub record Lowers (found : ℕ) (before after : Marked) : Type 0 where
  pub near : (v d : ℕ) → distance_at before.distances v ≡ Some d → d ≤ found → distance_at after.distances v ≡ Some d
  pub marks : (v : ℕ) → slice_index_or after.stale v true ≡ false →
      (slice_index_or before.stale v true ≡ false) × (distance_at after.distances v ≡ distance_at before.distances v)
  pub kept : (v : ℕ) → slice_index_or before.stale v false ≡ true → slice_index_or after.stale v false ≡ true
  pub left : what_is_left after.distances after.stale ≤ what_is_left before.distances before.stale

-- one of the ports is that of this vertex, and the vertices of all others have distances up to this
pub record IsLastAbove (distances : List (Option ℕ)) (ports : List Port) (found to : ℕ) : Type 0 where
  pub port : Port
  pub among : Contains ports port
  pub vertex : port.vertex ≡ to
  pub others : (p : Port) → Contains ports p → (p.vertex ≡ to) ⊎ IsAtMost (distance_at distances p.vertex) found
