-- How cursors hold the children that wait.
use Rattle.std.specs.Prelude.{ℕ, ◌+◌, ◌*◌, ◌<◌, ◌≤◌, List, length, map, drop, reverse}
use Rattle.std.specs.List.{flat_map}
use Rattle.order_core.specs.Pairs.{Pair}
use Rattle.order_search.specs.steps.Waiting.{child_of}
use Rattle.order_search.specs.declared.child.Child.{Child}
use Rattle.order_search.specs.declared.siblings.Siblings.TheInside.{Inside}

-- the pairs of each of some routers with each of others, row by row
abbrev pub grid : List ℕ → List ℕ → List Pair
grid olds news = flat_map (λ (u : ℕ). map (λ (v : ℕ). (u, v)) news) olds

-- the children from the cursor on: rows of the New routers, one for each Old router
abbrev pub children_left : Inside → List Child
children_left s = map (child_of s.above) (drop (s.row * length s.news.items + s.column) (grid s.olds.items s.news.items))

-- the cursor stands in a row
pub record StandsInRow (s : Inside) : Type 0 where
  pub column : s.column < length s.news.items
  pub row : s.row ≤ length s.olds.items

-- the children of some branches, those of the last branch first
abbrev pub all_children : List (List Child) → List Child
all_children branches = flat_map (λ (children : List Child). children) (reverse branches)
