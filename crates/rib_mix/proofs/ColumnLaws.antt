-- Cells that stand sort by sort.
use Rattle.std.proofs.lemmas.Grind.{common_steps}
use Rattle.std.proofs.Common.{◌≡◌, ℕ, ◌<◌, ◌≤◌, ◌∙◌, [], ◌∷◌, ◌++◌, List}
use Rattle.std.proofs.Common.{ap, get_or, length, replicate}
use Rattle.std.proofs.Common.{arith, subst, sym, Option, None, Some, IfSome, length-append, ⊎_elim}
use Rattle.std.proofs.lemmas.Bool.{cases_lt}
use Rattle.std.proofs.lemmas.List.{get_or-map, get_or-replicate, get_or_append_left, get_or_push, length-map, length-replicate}
use Rattle.std.proofs.lemmas.List.{map-append}
use Rattle.std.proofs.lemmas.List.FromFn.{get_or-map-range_with_len, length-map-range_with_len}
use Rattle.rib_mix.specs.Cells.{no_cell}
use Rattle.rib_mix.specs.declared.cell.Cell.{Cell}
use Rattle.rib_mix.specs.steps.Columns.{AreCellsAt, AreColumns, GainColumn, IsColumn, column_row, column_rows}
use Rattle.rib_mix.specs.steps.Unlike.{HaveCells}

-- each router has a row
pub rows_count : (routers : ℕ) (all : List (List Cell)) → length (column_rows routers all) ≡ routers
rows_count routers all = length-map-range_with_len (column_row all) 0 routers

row_read : (routers : ℕ) (all : List (List Cell)) (u : ℕ) → u < routers
    → get_or (column_rows routers all) u [] ≡ column_row all u
row_read routers all u router = get_or-map-range_with_len (column_row all) 0 routers u u [] router (omega arith)

-- of a cell for each sort
pub row_length : (routers : ℕ) (all : List (List Cell)) (u : ℕ) → u < routers
    → length (get_or (column_rows routers all) u []) ≡ length all
row_length routers all u router =
    ap length (row_read routers all u router) ∙ length-map all (λ (column : List Cell). get_or column u no_cell)

-- which is that of the sort's column
pub cell_in_column : (routers : ℕ) (all : List (List Cell)) (u s : ℕ) → u < routers → s < length all
    → get_or (get_or (column_rows routers all) u []) s no_cell ≡ get_or (get_or all s []) u no_cell
cell_in_column routers all u s router sort =
    ap (λ (row : List Cell). get_or row s no_cell) (row_read routers all u router)
    ∙ get_or-map (λ (column : List Cell). get_or column u no_cell) all s [] no_cell sort

-- a router and a sort that rows have are among those
pub record IsPlaced (routers u s : ℕ) (all : List (List Cell)) : Type 0 where
  pub router : u < routers
  pub sort : s < length all

pub placed : (routers u s : ℕ) (all rows : List (List Cell)) → column_rows routers all ≡ rows → u < length rows
    → s < length (get_or rows u []) → IsPlaced routers u s all
placed routers u s all rows is in_rows in_row = grind (arith, common_steps, row_length, rows_count)

-- so are a router and a sort that is asked for
pub placed_some : (routers u s : ℕ) (all rows : List (List Cell)) (sort : Option ℕ) → column_rows routers all ≡ rows
    → u < length rows → IfSome sort (λ t. t < length (get_or rows u [])) → sort ≡ Some s → IsPlaced routers u s all
placed_some routers u s all rows sort is in_rows in_row same =
    placed routers u s all rows is in_rows
    (subst (λ (o : Option ℕ). IfSome o (λ t. t < length (get_or rows u []))) same in_row)

-- columns to which one is added
pub column_gained : (routers : ℕ) (all new : List (List Cell)) (column : List Cell) (old : List (List Cell))
    → column_rows routers all ≡ old → new ≡ all ++ column ∷ [] → GainColumn column old (column_rows routers new)
column_gained routers all new column old is new_is = record {
  count = rows_count routers new ∙ sym (rows_count routers all) ∙ ap length is;
  each = λ u in_old.
      let router : u < routers = omega (arith, in_old, ap length is, rows_count routers all) in
      row_read routers new u router
      ∙ ap (λ (columns : List (List Cell)). column_row columns u) new_is
      ∙ map-append (λ (cells : List Cell). get_or cells u no_cell) all (column ∷ [])
      ∙ ap (λ (row : List Cell). row ++ get_or column u no_cell ∷ []) (sym (row_read routers all u router))
      ∙ ap (λ (rows : List (List Cell)). get_or rows u [] ++ get_or column u no_cell ∷ []) is;
}

-- all of them have a cell of each router
pub more_columns : (routers : ℕ) (all new : List (List Cell)) (column : List Cell) (old : List (List Cell))
    → AreColumns routers all → column_rows routers all ≡ old → length column ≡ length old → new ≡ all ++ column ∷ []
    → AreColumns routers new
more_columns routers all new column old are is long new_is s below =
    ap (λ (columns : List (List Cell)). length (get_or columns s [])) new_is
    ∙ ⊎_elim (λ (had : s < length all).
    ap length (get_or_append_left all (column ∷ []) [] s had) ∙ are s had)
    (λ (last : length all ≤ s).
    ap length (get_or_push all column [] s (omega (arith, last, below, ap length new_is, length-append all (column ∷ []))))
    ∙ long ∙ sym (ap length is) ∙ rows_count routers all)
    (cases_lt s (length all))

-- the column of a sort that all rows have
pub column_shown : (routers s : ℕ) (all : List (List Cell)) (column : List Cell) (rows : List (List Cell))
    → AreColumns routers all → column_rows routers all ≡ rows → s < length all → column ≡ get_or all s []
    → IsColumn rows s column
column_shown routers s all column rows are is within same = record {
  count = ap length same ∙ are s within ∙ sym (rows_count routers all) ∙ ap length is;
  each = λ u in_rows.
      ap (λ (cells : List Cell). get_or cells u no_cell) same
      ∙ sym (cell_in_column routers all u s (omega (arith, in_rows, ap length is, rows_count routers all)) within)
      ∙ ap (λ (rs : List (List Cell)). get_or (get_or rs u []) s no_cell) is;
}

-- where there is none there is no router
pub no_column : (routers s : ℕ) (all rows : List (List Cell)) → column_rows routers all ≡ rows → HaveCells rows s
    → length all ≤ s → IsColumn rows s []
no_column routers s all rows is has past = record {
  count = omega (arith, none);
  each = λ u in_rows. absurd (omega (arith, in_rows, none));
}
  where
    none : length rows ≤ 0
    none = ⊎_elim (λ (some : 0 < length rows).
        absurd (omega (arith, past, (placed routers 0 s all rows is some (has 0 some)).sort)))
        (λ (few : length rows ≤ 0). few)
        (cases_lt 0 (length rows))

-- nothing is used by routers where there is no sort
pub nothing_at : (rows : List (List Cell)) (column : List Cell) → column ≡ replicate (length rows) no_cell
    → AreCellsAt rows None column
nothing_at rows column is = record {
  count = ap length is ∙ length-replicate (length rows) no_cell;
  each = λ u below. ap (λ (cells : List Cell). get_or cells u no_cell) is
      ∙ get_or-replicate (length rows) u no_cell no_cell below;
}
