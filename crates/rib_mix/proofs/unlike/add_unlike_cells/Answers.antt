use Rattle.std.proofs.Common.{◌≡◌, ◌<◌, ◌∙◌, ◌⊎◌, ◌++◌, ◌∷◌, inl, inr, ℕ, List, [], arith, get_or, length, sym}
use Rattle.std.proofs.lemmas.List.{get_or_default}
use Rattle.rib_mix.specs.Cells.{no_cell}
use Rattle.rib_mix.specs.declared.cell.Cell.{Cell}
use Rattle.rib_mix.specs.steps.Columns.{IsColumn}
use Rattle.rib_mix.specs.steps.Unlike.{HaveSameCells}
use Rattle.rib_mix.proofs.UnlikeLaws.{added_more}
use Rattle.rib_mix.proofs.unlike.add_unlike_cells.Goals as goal

-- the cell that was read of a column is that of the router
read_of : (rows : List (List Cell)) (sort u : ℕ) (column : List Cell) (cell : Cell) → IsColumn rows sort column → u < length rows
    → cell ≡ get_or column u cell → cell ≡ get_or (get_or rows u []) sort no_cell
read_of rows sort u column cell are router is =
    is ∙ get_or_default column u cell no_cell (omega (arith, router, are.count)) ∙ are.each u router

pub loop-router-preserved : goal.loop-router-preserved
loop-router-preserved c =
    let rows : List (List Cell) = c.args.columns.now in
    let router : ℕ = c.loop-router.router in
    let mid : List ℕ = c.loop-router.unlike.items in
    let new : List ℕ = c.add_unlike_cell.new.unlike.items in
    let in_rows : router < length rows = omega (arith, c.loop-router-test.true, c.of_sort-cell-items.ensures.count) in
    let next : (new ≡ mid ++ router ∷ []) ⊎ ((new ≡ mid) × HaveSameCells (get_or rows router []) c.args.sorts) =
    elim c.in_ok-add_unlike_cell.ensures [
      | inl more ↦ inl more
      | inr none ↦ inr (
        none.0,
        sym (read_of rows c.args.sorts.0 router c.of_sort-cell-items.result.now c.cell-item.result c.of_sort-cell-items.ensures
            in_rows c.cell-item.is)
            ∙ none.1
            ∙ read_of rows c.args.sorts.1 router c.of_sort-others.result.now c.index-others-router.result c.of_sort-others.ensures
            in_rows c.index-others-router.is,
      )
    ] in
    added_more (λ (u : ℕ). HaveSameCells (get_or rows u []) c.args.sorts) router c.args.unlike.now.items mid new
    c.loop-router.invariant next
