-- The longest of some prefixes for each of some addresses, as it is found: by numbers.
use Rattle.std.specs.Prelude.{ℕ, List, map, slice_index}
use Rattle.route_core.specs.Rows.{Row}

-- the number of the row at a place
abbrev pub number_at : List Row → ℕ → ℕ
number_at rows place = slice_index (map (λ (row : Row). row.number) rows) place
