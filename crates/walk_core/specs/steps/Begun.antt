-- What a flood begins with: the distances of a neighbor over the link there, from which nothing is stale but the root.
use Rattle.std.specs.Prelude.{◌≡◌, ◌≢◌, ℕ, ◌^◌, ◌<◌, ◌≤◌, List, [], Option, Some, None, Contains, length, replicate, slice_index_or, slice_set}
use Rattle.walk_core.specs.BestOffers.{total_with}
use Rattle.walk_core.specs.Distances.{distance_at}
use Rattle.walk_core.specs.Segments.{Sends}
use Rattle.walk_core.specs.steps.Relaxing.{AreWalked, HaveRoom, IsTightFrom}
use Rattle.walk_core.specs.steps.SegmentWalks.{IsJoined, Joined}
use Rattle.walk_core.specs.declared.outlets.Outlet.{Outlet}

-- costs of walks from the root, which no arc from another vertex undercuts
pub record IsBegun (graph : Joined) (root : ℕ) (distances : List (Option ℕ)) : Type 0 where
  pub joined : IsJoined graph
  pub long : length distances ≡ graph.count
  pub room : HaveRoom distances
  pub walked : AreWalked (Sends graph.segments) root distances
  pub tight : (u : ℕ) → u ≢ root → IsTightFrom (Sends graph.segments) u distances

-- the root's own distance alone
abbrev pub IsFarRow : ℕ → ℕ → List (Option ℕ) → Type 0
IsFarRow count root distances = distances ≡ slice_set (replicate count None) root (Some 0)

-- the port is on a link to a vertex of a lower number
pub record IsBack (root : ℕ) (outlet : Outlet) : Type 0 where
  pub to : ℕ
  pub leads : outlet.to ≡ Some to
  pub below : to < root

-- it is one of these
pub record IsLinkBack (outlets : List Outlet) (root : ℕ) (outlet : Outlet) : Type 0 where
  pub among : Contains outlets outlet
  pub back : IsBack root outlet

-- the distances from where a link leads
pub record IsRowBack (rows : List (List (Option ℕ))) (outlet : Outlet) (row : List (Option ℕ)) : Type 0 where
  pub to : ℕ
  pub leads : outlet.to ≡ Some to
  pub is : row ≡ slice_index_or rows to []

-- a distance over an arc of this cost, at most 2^32
pub record IsNearOver (far : Option ℕ) (cost : ℕ) (distance : Option ℕ) : Type 0 where
  pub total : distance ≡ total_with far cost
  pub near : (d : ℕ) → distance ≡ Some d → d ≤ 2 ^ 32

-- those of the first n vertices are, and no others are there
pub record AreNearOver (far : List (Option ℕ)) (cost count n : ℕ) (row : List (Option ℕ)) : Type 0 where
  pub long : length row ≡ count
  pub each : (v : ℕ) → v < n → IsNearOver (distance_at far v) cost (distance_at row v)
  pub none : (v : ℕ) → n ≤ v → distance_at row v ≡ None

-- all are, but for the root's own
pub record IsRowOver (far : List (Option ℕ)) (cost count root : ℕ) (row : List (Option ℕ)) : Type 0 where
  pub long : length row ≡ count
  pub own : distance_at row root ≡ Some 0
  pub each : (v : ℕ) → v ≢ root → IsNearOver (distance_at far v) cost (distance_at row v)
