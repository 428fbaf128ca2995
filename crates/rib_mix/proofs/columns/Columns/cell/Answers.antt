use Rattle.std.proofs.Common.{◌≡◌, ◌<◌, ◌∙◌, ℕ, [], List, Some, arith, ap, get_or, length, sym}
use Rattle.std.proofs.lemmas.List.{get_or_default}
use Rattle.rib_mix.specs.Cells.{cell_at, no_cell}
use Rattle.rib_mix.specs.declared.cell.Cell.{Cell}
use Rattle.rib_mix.proofs.ColumnLaws.{cell_in_column, placed_some}
use Rattle.rib_mix.proofs.columns.Columns.cell.Goals as goal

-- the column that was read is that of the sort
column_read : (all : List (List Cell)) (sort : ℕ) (cells column : List Cell) → sort < length all → cells ≡ column
    → column ≡ get_or all sort column → cells ≡ get_or all sort []
column_read all sort cells column within same is = same ∙ is ∙ get_or_default all sort column [] within

pub index-requires : goal.index-requires
index-requires c =
    let is = placed_some _ _ _ _ _ _ c.self.view_is c.requires.router c.requires.sort c.in-Some.is in
    omega (arith, is.sort, c.self.inside.all.ok.0)

pub index-requires-in-Some : goal.index-requires-in-Some
index-requires-in-Some c =
    let is = placed_some _ _ _ _ _ _ c.self.view_is c.requires.router c.requires.sort c.in-Some.is in
    let column_is = column_read _ _ _ _ is.sort c.behind-self.view_is c.index.ensures in
    omega (arith, is.router, ap length column_is, c.self.invariant c.in-Some.sort is.sort, c.behind-self.inside.cells.ok.0)

pub returns-in-Some : goal.returns-in-Some
returns-in-Some c =
    let router : ℕ = c.args.router in
    let all : List (List Cell) = c.self.inside.all.items in
    let cells : List Cell = c.behind-self.inside.cells.items in
    let is = placed_some _ _ _ _ _ _ c.self.view_is c.requires.router c.requires.sort c.in-Some.is in
    let column_is : cells ≡ get_or all c.in-Some.sort [] = column_read _ _ _ _ is.sort c.behind-self.view_is c.index.ensures in
    c.index-in-Some.ensures
    ∙ get_or_default cells router c.index-in-Some.result.now no_cell
    (omega (arith, is.router, ap length column_is, c.self.invariant c.in-Some.sort is.sort))
    ∙ ap (λ (column : List Cell). get_or column router no_cell) column_is
    ∙ sym (cell_in_column _ all router c.in-Some.sort is.router is.sort)
    ∙ ap (λ (rows : List (List Cell)). cell_at (get_or rows router []) (Some c.in-Some.sort)) c.self.view_is
    ∙ ap (cell_at (get_or c.args.self.now router [])) (sym c.in-Some.is)
