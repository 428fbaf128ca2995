-- Relaxation: the cost of some walk to each vertex falls, arc by arc, until no arc undercuts it.
use Rattle.std.specs.Prelude.{◌≡◌, ℕ, ◌+◌, ◌*◌, ◌^◌, ◌<◌, ◌≤◌, Bool, length, List, [], ◌∷◌, Option, Some, None}
use Rattle.std.specs.Bool.{OnTrue, OnFalse}
use Rattle.walk_core.specs.Walks.{Arcs, Leg, Walks, walk_cost}
use Rattle.walk_core.specs.Distances.{distance_at}

-- some walk from u to v costs this
pub record WalkCosts (arc : Arcs) (u v cost : ℕ) : Type 0 where
  pub legs : List Leg
  pub leads : Walks arc u legs v
  pub costs : walk_cost legs ≡ cost

-- every distance is the cost of some walk from the root, and the root's own is 0
pub record AreWalked (arc : Arcs) (root : ℕ) (distances : List (Option ℕ)) : Type 0 where
  pub start : distance_at distances root ≡ Some 0
  pub walked : (v d : ℕ) → distance_at distances v ≡ Some d → WalkCosts arc root v d

-- there is a distance, and it is at most this
pub record IsAtMost (distance : Option ℕ) (most : ℕ) : Type 0 where
  pub value : ℕ
  pub is : distance ≡ Some value
  pub below : value ≤ most

-- no arc from u undercuts the distance of its end
abbrev pub IsTightFrom : Arcs → ℕ → List (Option ℕ) → Type 0
IsTightFrom arc u distances = (v c d : ℕ) → arc u v c → distance_at distances u ≡ Some d →
    IsAtMost (distance_at distances v) (d + c)

-- how many vertices have no distance yet
abbrev pub missing : List (Option ℕ) → ℕ
missing [] = 0
missing (None ∷ rest) = 1 + missing rest
missing (Some d ∷ rest) = missing rest

-- of room for one arc a vertex every distance leaves that of one arc more than there are vertices without a
-- distance; with fewer than 2^32 vertices all of it is below 2^64
pub record HaveRoom (distances : List (Option ℕ)) : Type 0 where
  pub few : length distances < 2 ^ 32
  pub room : (v d : ℕ) → distance_at distances v ≡ Some d →
      d + (missing distances + 1) * 2 ^ 32 ≤ length distances * 2 ^ 32

-- what a distance weighs: one that is missing weighs more than any
abbrev pub weight_of : Option ℕ → ℕ
weight_of None = 2 ^ 64
weight_of (Some d) = d

-- what the distances weigh together, which falls with each arc that is relaxed
abbrev pub total_weight : List (Option ℕ) → ℕ
total_weight [] = 0
total_weight (d ∷ rest) = weight_of d + total_weight rest

-- distances fall to the costs of walks, and none rises
pub record Fall (arc : Arcs) (before after : List (Option ℕ)) : Type 0 where
  pub room : HaveRoom after
  pub walked : (root : ℕ) → AreWalked arc root before → AreWalked arc root after
  pub lower : (v most : ℕ) → IsAtMost (distance_at before v) most → IsAtMost (distance_at after v) most

-- relaxing arcs leads from these distances to those, and tells whether some distance fell
pub record Relaxes (arc : Arcs) (before after : List (Option ℕ)) (fell : Bool) : Type 0 where
  pub room : HaveRoom after
  pub walked : (root : ℕ) → AreWalked arc root before → AreWalked arc root after
  pub falls : OnTrue fell (total_weight after < total_weight before)
  pub same : OnFalse fell (after ≡ before)
