-- Least walks that stay what they are where segments go.
use Rattle.std.specs.Prelude.{All, ◌≡◌, ℕ, ◌+◌, ◌*◌, ◌^◌, ◌<◌, ◌≤◌, ◌⊎◌, ◌≢◌, Bool, true, false, List, Contains, Option, Some, drop, length, slice_index_or}
use Rattle.walk_core.specs.Walks.{Arcs, LeastCost}
use Rattle.walk_core.specs.Reach.{Reach, AreLeastWalks, distance_of}
use Rattle.walk_core.specs.steps.Flooding.{segment_at}
use Rattle.walk_core.specs.steps.SegmentWalks.{reach_at}
use Rattle.walk_core.specs.Segments.{IsLeftOf}
use Rattle.walk_core.specs.declared.segment.Port.{Port}

-- over the arc from a to b, which costs this, b is farther from the root than it is
abbrev pub IsDear : Arcs → ℕ → ℕ → ℕ → ℕ → Type 0
IsDear arc root a b cost = (d e : ℕ) → LeastCost arc root a d → LeastCost arc root b e → e < d + cost

-- each arc is one of the others, or dear from the root
abbrev pub LosesDearArcs : Arcs → Arcs → ℕ → Type 0
LosesDearArcs arc other root = (a b cost : ℕ) → arc a b cost → other a b cost ⊎ IsDear arc root a b cost

-- one vertex is nearer to the root than it is from another one at this cost, where the root reaches both
abbrev pub IsNearer : Option ℕ → ℕ → Option ℕ → Type 0
IsNearer near cost far = (d e : ℕ) → near ≡ Some d → far ≡ Some e → e < d + cost

-- from one port the root doesn't reach the vertex of another at its distance, where it's another vertex
abbrev pub IsDearTo : Reach → Port → Port → Type 0
IsDearTo reach near far = near.vertex ≢ far.vertex → IsNearer (distance_of reach near.vertex) near.cost (distance_of reach far.vertex)

-- it is so of one port and each of a segment
abbrev pub IsDearPort : Reach → List Port → Port → Type 0
IsDearPort reach segment near = All (IsDearTo reach near) segment

-- a segment is of no use to a root
abbrev pub IsUnused : Reach → List Port → Type 0
IsUnused reach segment = All (IsDearPort reach segment) segment

-- each of the first n segments of a list is among others, or stands at one of these places
abbrev pub AreLostBefore : ℕ → List (List Port) → List (List Port) → List ℕ → Type 0
AreLostBefore n before after lost = (i : ℕ) → i < n → Contains after (segment_at before i) ⊎ Contains lost i

-- the others are among the list, whose segments are among them but for those at these places
pub record LosesSegments (before after : List (List Port)) (lost : List ℕ) : Type 0 where
  pub places : (i : ℕ) → Contains lost i → i < length before
  pub every : AreLostBefore (length before) before after lost
  pub among : (segment : List Port) → Contains after segment → Contains before segment

-- what is known of the walks from a root is so over these arcs, and fits so many vertices
pub record StaysLeast (arc : Arcs) (count root : ℕ) (reach : Reach) : Type 0 where
  pub least : AreLeastWalks arc root reach
  pub within : length reach.distances ≤ count
  pub near : (v d : ℕ) → distance_of reach v ≡ Some d → d < count * 2 ^ 32

-- it is so of each root that is marked
abbrev pub StayLeast : Arcs → ℕ → List Bool → List Reach → Type 0
StayLeast arc count roots walks = (u : ℕ) → slice_index_or roots u false ≡ true → StaysLeast arc count u (reach_at walks u)

-- none of the segments at some places is of use to a root
abbrev pub AllUnused : List (List Port) → List ℕ → Reach → Type 0
AllUnused segments places reach = All (λ i. IsUnused reach (segment_at segments i)) places

-- of the first n segments of a list so many are the first of the others, in the same order, and these are the places of the rest
pub record HasRun (n : ℕ) (before after : List (List Port)) (met : ℕ) (lost : List ℕ) : Type 0 where
  pub within : met ≤ length after
  pub places : (i : ℕ) → Contains lost i → i < n
  pub every : AreLostBefore n before after lost
  pub among : (j : ℕ) → j < met → (i : ℕ) × (i < n) × (segment_at before i ≡ segment_at after j)
  pub left : IsLeftOf after before → IsLeftOf (drop met after) (drop n before)
