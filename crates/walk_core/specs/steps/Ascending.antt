-- Lists whose numbers ascend.
use Rattle.std.specs.Prelude.{ℕ, List, [], slice_index_or}
use Rattle.std.specs.List.Sorted.{IsStrictlyIncreasing}

-- the numbers of each list ascend
abbrev pub AreAscending : List (List ℕ) → Type 0
AreAscending lists = (v : ℕ) → IsStrictlyIncreasing (slice_index_or lists v [])
