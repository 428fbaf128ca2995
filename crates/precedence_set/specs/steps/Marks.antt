-- Marked routers in a list.
use Rattle.std.specs.Prelude.{◌≡◌, ℕ, ◌<◌, Bool, List, slice_index}
use Rattle.order_core.specs.Marks.{IsMarked, marked_count}
use Rattle.precedence_set.specs.steps.Sorting.{StandsBelow}

-- marks, and a list of which the first places are in use
pub record MarkedList : Type 0 where
  pub marks : List Bool
  pub list : List ℕ
  pub count : ℕ

abbrev pub marked_list : List Bool → List ℕ → ℕ → MarkedList
marked_list marks list count = record { marks = marks; list = list; count = count }

-- the first places of a list have the marked routers, and are as many
pub record AreListed (marks : List Bool) (list : List ℕ) (count : ℕ) : Type 0 where
  pub counted : count ≡ marked_count marks
  pub listed : (r : ℕ) → IsMarked marks r → StandsBelow list count r
  pub marked : (j : ℕ) → j < count → IsMarked marks (slice_index list j)
