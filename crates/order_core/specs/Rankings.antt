-- Rankings: each router stands in a wave, and the waves follow one another.
use Rattle.std.specs.Prelude.{◌≡◌, ℕ, ◌+◌, ◌<◌, ◌≤◌, ◌==◌, ◌⊎◌, max, List, [], ◌∷◌, length, slice_index, filter}
use Rattle.std.specs.Prelude.{Contains}
use Rattle.std.specs.List.{flat_map, range_with_len}
use Rattle.order_core.specs.Pairs.{Pair}

-- a ranking gives each of n routers the number of its wave, counted from 0, and leaves no wave empty: with
-- a number every lower one stands in it. The empty list is the ranking of no router
pub record IsRanking (n : ℕ) (ranks : List ℕ) : Type 0 where
  pub each : length ranks ≡ n
  pub whole : (w r : ℕ) → w ≤ r → Contains ranks r → Contains ranks w

-- the rank of router u
abbrev pub rank_of : List ℕ → ℕ → ℕ
rank_of ranks u = slice_index ranks u

-- how many waves there are: one more than the greatest rank, and none of no router
abbrev pub wave_count : List ℕ → ℕ
wave_count [] = 0
wave_count (rank ∷ ranks) = max (rank + 1) (wave_count ranks)

-- the numbers below n, ascending
abbrev pub numbers_below : ℕ → List ℕ
numbers_below n = range_with_len 0 n

-- wave w: the routers of that rank, ascending
abbrev pub wave_of : List ℕ → ℕ → List ℕ
wave_of ranks w = filter (λ u. rank_of ranks u == w) (numbers_below (length ranks))

-- the routers of the waves before w, wave by wave
abbrev pub waves_before : List ℕ → ℕ → List ℕ
waves_before ranks w = flat_map (wave_of ranks) (numbers_below w)

-- the routers in the order of the flat run: wave by wave, ascending in each
abbrev pub flat_of : List ℕ → List ℕ
flat_of ranks = waves_before ranks (wave_count ranks)

-- u comes before v in the flat run: in an earlier wave, or in the same one with a lower number
abbrev pub ComesBefore : List ℕ → ℕ → ℕ → Type 0
ComesBefore ranks u v = (rank_of ranks u < rank_of ranks v) ⊎ ((rank_of ranks u ≡ rank_of ranks v) × (u < v))

-- a ranking keeps "u before v" where the wave of u comes before the wave of v
abbrev pub KeepsPair : List ℕ → Pair → Type 0
KeepsPair ranks p = rank_of ranks p.0 < rank_of ranks p.1

-- it keeps each of some pairs
abbrev pub KeepsPairs : List ℕ → List Pair → Type 0
KeepsPairs ranks pairs = (p : Pair) → Contains pairs p → KeepsPair ranks p
