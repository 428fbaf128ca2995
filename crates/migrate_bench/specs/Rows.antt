-- The neighbors of a router, in a list.
use Rattle.std.specs.Prelude.{ℕ, ◌<◌, ◌^◌, List, length, slice_index}

-- the row lists routers, no more than a u32 counts
pub record ListsRouters (count : ℕ) (row : List ℕ) : Type 0 where
  pub within : (k : ℕ) → k < length row → slice_index row k < count
  pub short : length row < 2 ^ 32
