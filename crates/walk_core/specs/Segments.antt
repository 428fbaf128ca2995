-- Vertices on common segments, as routers on LANs and links: each port sends at its own cost to all others.
use Rattle.std.specs.Prelude.{◌≡◌, ◌≢◌, ℕ, ◌^◌, ◌<◌, ◌≤◌, List, [], ◌∷◌, Contains}
use Rattle.walk_core.specs.declared.segment.Port.{Port}

-- u has a port of the segment that costs this, and v has one too
pub record SendsOn (segment : List Port) (u v cost : ℕ) : Type 0 where
  pub near : Port
  pub far : Port
  pub near_among : Contains segment near
  pub far_among : Contains segment far
  pub from : near.vertex ≡ u
  pub to : far.vertex ≡ v
  pub costs : near.cost ≡ cost

-- u sends to v at this cost over one of the segments, also to itself
pub record Sends (segments : List (List Port)) (u v cost : ℕ) : Type 0 where
  pub segment : List Port
  pub among : Contains segments segment
  pub over : SendsOn segment u v cost

-- u sends to another vertex v at this cost over one of the segments: the arcs that segments stand for
pub record SendsAcross (segments : List (List Port)) (u v cost : ℕ) : Type 0 where
  pub apart : u ≢ v
  pub over : Sends segments u v cost

-- a port is that of one of so many vertices, and costs at least 1, and a number of 32 bits
pub record IsPort (count : ℕ) (port : Port) : Type 0 where
  pub vertex : port.vertex < count
  pub cost : 1 ≤ port.cost
  pub most : port.cost < 2 ^ 32

-- the ports of all segments are
abbrev pub AreSegments : ℕ → List (List Port) → Type 0
AreSegments count segments =
    (segment : List Port) → Contains segments segment → (port : Port) → Contains segment port → IsPort count port

-- some segments are what is left of others where some of these go, in the same order
pub data IsLeftOf : List (List Port) → List (List Port) → Type 0 where
  nothing : IsLeftOf [] []
  stays : (segment : List Port) (after before : List (List Port)) → IsLeftOf after before → IsLeftOf (segment ∷ after) (segment ∷ before)
  goes : (segment : List Port) (after before : List (List Port)) → IsLeftOf after before → IsLeftOf after (segment ∷ before)
