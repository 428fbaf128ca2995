-- The children of a branch that are left, told by two places.
use Rattle.std.specs.Prelude.{ℕ, ◌+◌, ◌<◌, List, ◌++◌, length, map, drop, slice_index}
use Rattle.std.specs.List.{flat_map}
use Rattle.order_core.specs.Pairs.{Pair}
use Rattle.refutation_check.specs.declared.cursor.Cursor.TheInside.{Inside}

-- the pairs of one router with some others
abbrev pub row : ℕ → List ℕ → List Pair
row u vs = map (λ (v : ℕ). (u, v)) vs

-- the pairs from places of the Old and of the New routers on: the rest of one row, then the rows after it
abbrev pub pairs_left : List ℕ → List ℕ → ℕ → ℕ → List Pair
pairs_left olds news old new =
    row (slice_index olds old) (drop new news) ++ flat_map (λ (u : ℕ). row u news) (drop (old + 1) olds)

-- the pairs from a cursor on
abbrev pub left_of : Inside → List Pair
left_of c = pairs_left c.olds.items c.news.items c.old c.new

-- what the fields keep
pub record IsCursor (c : Inside) : Type 0 where
  pub old_in : c.old < length c.olds.items
  pub new_in : c.new < length c.news.items
