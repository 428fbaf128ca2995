-- Distances from one vertex, by the number of the other: the least costs of walks.
use Rattle.std.specs.Prelude.{ℕ, List, Option, None, slice_index_or}

-- the distance of v; past the last vertex there is none
abbrev pub distance_at : List (Option ℕ) → ℕ → Option ℕ
distance_at distances v = slice_index_or distances v None
