-- Routers that may treat two classes differently, as they are found.
use Rattle.std.specs.Prelude.{◌≡◌, ℕ, ◌<◌, ◌^◌, ◌%◌, ◌/◌, [], List, length, slice_index_or, Option, Some, None}
use Rattle.rib_mix.specs.Cells.{cell_at}
use Rattle.rib_mix.specs.steps.Codes.{use_of_code}
use Rattle.rib_mix.specs.declared.cell.Cell.{Cell}

-- another class is known, and these are the sorts of a class and of that one
pub record AreBothSorts (sorts : List (Option ℕ)) (known : Option ℕ) (class : ℕ) (both : ℕ × ℕ) : Type 0 where
  pub other : ℕ
  pub known_is : known ≡ Some other
  pub one_is : slice_index_or sorts class None ≡ Some both.0
  pub other_is : slice_index_or sorts other None ≡ Some both.1

-- a router's cells of two sorts are the same
abbrev pub HaveSameCells : List Cell → ℕ × ℕ → Type 0
HaveSameCells cells sorts = cell_at cells (Some sorts.0) ≡ cell_at cells (Some sorts.1)

-- each router has a cell of this sort
abbrev pub HaveCells : List (List Cell) → ℕ → Type 0
HaveCells rows sort = (u : ℕ) → u < length rows → sort < length (slice_index_or rows u [])

-- the cell that a number stands for, of the codes of its uses
abbrev pub cell_of_number : ℕ → Cell
cell_of_number number = record { middle = use_of_code (number % 2 ^ 32); other = use_of_code (number / 2 ^ 32) }
