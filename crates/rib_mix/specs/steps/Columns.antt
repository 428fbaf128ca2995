-- What routers use for sorts of prefixes, kept sort by sort.
use Rattle.std.specs.Prelude.{◌≡◌, ℕ, ◌<◌, ◌++◌, ◌∷◌, [], List, Option, length, map, slice_index_or}
use Rattle.std.specs.List.{range_with_len}
use Rattle.rib_mix.specs.Cells.{cell_at, no_cell}
use Rattle.rib_mix.specs.declared.cell.Cell.{Cell}

-- the cells of router u, of the columns of all sorts
abbrev pub column_row : List (List Cell) → ℕ → List Cell
column_row columns u = map (λ column. slice_index_or column u no_cell) columns

-- those of each of so many routers
abbrev pub column_rows : ℕ → List (List Cell) → List (List Cell)
column_rows routers columns = map (column_row columns) (range_with_len 0 routers)

-- each column has a cell of each router
abbrev pub AreColumns : ℕ → List (List Cell) → Type 0
AreColumns routers columns = (sort : ℕ) → sort < length columns → length (slice_index_or columns sort []) ≡ routers

-- each router has so many cells
abbrev pub HaveLength : ℕ → List (List Cell) → Type 0
HaveLength sorts rows = (u : ℕ) → u < length rows → length (slice_index_or rows u []) ≡ sorts

-- these are the cells of a sort, router by router
pub record IsColumn (rows : List (List Cell)) (sort : ℕ) (column : List Cell) : Type 0 where
  pub count : length column ≡ length rows
  pub each : (u : ℕ) → u < length rows → slice_index_or column u no_cell ≡ slice_index_or (slice_index_or rows u []) sort no_cell

-- these are what routers use for a sort, if there is one
pub record AreCellsAt (rows : List (List Cell)) (sort : Option ℕ) (column : List Cell) : Type 0 where
  pub count : length column ≡ length rows
  pub each : (u : ℕ) → u < length rows → slice_index_or column u no_cell ≡ cell_at (slice_index_or rows u []) sort

-- each router gains a cell, that of a column
pub record GainColumn (column : List Cell) (old new : List (List Cell)) : Type 0 where
  pub count : length new ≡ length old
  pub each : (u : ℕ) → u < length old → slice_index_or new u [] ≡ slice_index_or old u [] ++ slice_index_or column u no_cell ∷ []
