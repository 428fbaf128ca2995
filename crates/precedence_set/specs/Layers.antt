-- The layers of assumed pairs, and the chain that shows their number.
use Rattle.std.specs.Prelude.{◌≡◌, ℕ, suc, ◌+◌, ◌<◌, ◌≤◌, ◌⊎◌, List, length, slice_index, Contains}
use Rattle.order_core.specs.Least.{IsLowest}
use Rattle.order_core.specs.Pairs.{Pair}
use Rattle.order_core.specs.Rankings.{rank_of, wave_count}

-- u is a predecessor of v, and no predecessor of v has a greater layer
pub record IsHighestBefore (pairs : List Pair) (layers : List ℕ) (v u : ℕ) : Type 0 where
  pub before : Contains pairs (u, v)
  pub highest : (q : ℕ) → Contains pairs (q, v) → rank_of layers q ≤ rank_of layers u

-- v has no predecessor and this is 0, or it is one more than the greatest layer of its predecessors
abbrev pub IsLayerOf : List Pair → List ℕ → ℕ → ℕ → Type 0
IsLayerOf pairs layers v layer =
    ((layer ≡ 0) × ((u : ℕ) → ¬ Contains pairs (u, v))) ⊎ ((u : ℕ) × IsHighestBefore pairs layers v u × (layer ≡ rank_of layers u + 1))

-- the layers of n routers: a router without a predecessor has layer 0, any other one has one more than the
-- greatest layer of its predecessors
pub record AreLayers (n : ℕ) (pairs : List Pair) (layers : List ℕ) : Type 0 where
  pub whole : length layers ≡ n
  pub each : (v : ℕ) → v < n → IsLayerOf pairs layers v (rank_of layers v)

-- u is a router of this layer
pub record IsInLayer (layers : List ℕ) (layer u : ℕ) : Type 0 where
  pub within : u < length layers
  pub there : rank_of layers u ≡ layer

-- u is a predecessor of v, and it is in this layer
pub record IsBeforeInLayer (pairs : List Pair) (layers : List ℕ) (layer v u : ℕ) : Type 0 where
  pub before : Contains pairs (u, v)
  pub there : rank_of layers u ≡ layer

-- the chain has a router of each layer; it ends with the lowest router of the last layer, and before each
-- router stands the lowest of its predecessors in the layer before
pub record IsChain (pairs : List Pair) (layers chain : List ℕ) : Type 0 where
  pub one_each : length chain ≡ wave_count layers
  pub last : (k : ℕ) → suc k ≡ length chain → IsLowest (IsInLayer layers k) (slice_index chain k)
  pub back : (k : ℕ) → suc k < length chain → IsLowest (IsBeforeInLayer pairs layers k (slice_index chain (suc k))) (slice_index chain k)

-- the chain of the layers of n routers
pub record IsLayeredChain (n : ℕ) (pairs : List Pair) (chain : List ℕ) : Type 0 where
  pub layers : List ℕ
  pub are_layers : AreLayers n pairs layers
  pub is_chain : IsChain pairs layers chain
