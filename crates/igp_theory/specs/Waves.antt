-- Wave lists: several routers at once, their changes in any interleaving (Vanbever et al., SIGCOMM 2011).
use Rattle.std.specs.Prelude.{◌≡◌, ℕ, ◌<◌, List, [], ◌∷◌, length, slice_index}
use Rattle.std.specs.List.{flat_map}
use Rattle.order_core.specs.Rankings.{IsRanking, rank_of}
use Rattle.igp_theory.specs.Changes.{Change, first, second}
use Rattle.igp_theory.specs.Migrations.{Migration}
use Rattle.igp_theory.specs.States.{IsSeamless}
use Rattle.igp_theory.specs.Timetables.{IsSoundThroughout, router_times}

-- A wave list is told by a ranking: router u stands in the wave `rank_of ranks u + 1`, so in one wave, once, and no wave is
-- empty. In its wave a router makes the changes that it hasn't made at the start

-- a wave list is seamless where the migration is sound throughout it
pub record AreSeamlessWaves (move : Migration) (ranks : List ℕ) : Type 0 where
  pub waves : IsRanking (length move.net) ranks
  pub throughout : IsSoundThroughout move (router_times move.start ranks)

-- no wave list of the network is seamless, and no order is
pub record HasNoneSeamless (move : Migration) : Type 0 where
  pub waves : (ranks : List ℕ) → ¬ AreSeamlessWaves move ranks
  pub orders : (order : List ℕ) → ¬ IsSeamless move order

-- the run along an order, where every router begins in Old: router by router its two changes, one after the other. Along
-- `flat_of ranks`, the waves in turn and the routers of a wave in number order, it is the flat run
abbrev pub run_along : List ℕ → List Change
run_along order = flat_map (λ (u : ℕ). first u ∷ second u ∷ []) order

-- an order as the wave list of ones: the rank of each router is its place in the order
pub record AreOnes (order ranks : List ℕ) : Type 0 where
  pub each : length ranks ≡ length order
  pub places : (k : ℕ) → k < length order → rank_of ranks (slice_index order k) ≡ k
