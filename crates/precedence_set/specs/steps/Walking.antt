-- The pairs of a router, one after another, and the router that is known at most.
use Rattle.std.specs.Prelude.{◌≡◌, ◌≢◌, ℕ, ◌<◌, ◌≤◌, List, length, slice_index_or, Option, Some, None}
use Rattle.order_core.specs.Pairs.{Pair}

-- the pair of number i
abbrev pub pair_at : List Pair → ℕ → Pair
pair_at pairs i = slice_index_or pairs i (0, 0)

-- the first pair from router u that has number s or a later one
abbrev pub IsFirstFrom : List Pair → ℕ → ℕ → Option ℕ → Type 0
IsFirstFrom pairs u s None = (j : ℕ) → s ≤ j → j < length pairs → (pair_at pairs j).0 ≢ u
IsFirstFrom pairs u s (Some i) =
    (s ≤ i) × (i < length pairs) × ((pair_at pairs i).0 ≡ u) × ((j : ℕ) → s ≤ j → j < i → (pair_at pairs j).0 ≢ u)

-- a walk over the pairs from a router, which has come to the pair of this number; to none where it is at its end
pub record Walk : Type 0 where
  pub pairs : List Pair
  pub from : ℕ
  pub at : Option ℕ

abbrev pub walk : List Pair → ℕ → Option ℕ → Walk
walk pairs from at = record { pairs = pairs; from = from; at = at }

-- a router is known, and it isn't higher than this one
abbrev pub IsKnownUpTo : Option ℕ → ℕ → Type 0
IsKnownUpTo None v = ⊥
IsKnownUpTo (Some w) v = w ≤ v
