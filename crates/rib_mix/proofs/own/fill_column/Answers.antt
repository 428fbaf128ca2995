use Rattle.std.proofs.Common.{◌≡◌, ◌<◌, ◌∙◌, ℕ, List, None, Some, ap, arith, get_or, length, length-set, refl, set}
use Rattle.std.proofs.Common.{slice_get, subst, sym}
use Rattle.std.proofs.lemmas.List.{get_or-set_other}
use Rattle.std.proofs.lemmas.Option.{same_Some, slice_get_read}
use Rattle.rib_mix.specs.Cells.{no_cell}
use Rattle.rib_mix.specs.declared.cell.Cell.{Cell}
use Rattle.rib_mix.specs.declared.kinds.Kinds.{Kinds}
use Rattle.rib_mix.specs.declared.own.OfRouter.{OfRouter}
use Rattle.rib_mix.specs.declared.spots.BothSpots.{BothSpots}
use Rattle.rib_mix.specs.steps.OwnCells.{entry_cell, kinds_of}
use Rattle.rib_mix.specs.steps.Uses.{cell_of_two}
use Rattle.rib_mix.proofs.OwnLaws.{entry_cells_more, kinds_here}
use Rattle.rib_mix.proofs.own.fill_column.Goals as goal

pub loop-router-preserved : goal.loop-router-preserved
loop-router-preserved c =
    let router : ℕ = c.loop-router.router in
    let own : OfRouter = c.index-all-router.result in
    let all : List OfRouter = c.args.all.now in
    let spots : BothSpots = c.args.spots.now in
    let up : List Cell = c.args.column.now in
    let column : List Cell = c.loop-router.column in
    let cell : Cell = c.own_cell.result in
    let here : slice_get all router ≡ Some own =
    slice_get_read all (length all) router own refl (omega (arith, c.loop-router-test.true)) c.index-all-router.is in
    let kinds_are : c.own_kinds-kinds.result ≡ kinds_of own spots =
    kinds_here all spots router own c.loop-router.kinds c.own_kinds-kinds.result here c.requires.lanes
    c.loop-router.invariant.kinds
    c.own_kinds-kinds.ensures in
    let within : router < length column = omega (arith, c.loop-router-test.true, c.loop-router.invariant.count) in
    let made : cell ≡ entry_cell own spots (get_or up router no_cell) =
    c.own_cell.ensures
    ∙ ap (λ (k : Kinds). cell_of_two (get_or own.olds.now k.old None) (get_or own.news.now k.new None) own.old_first
    (get_or column router no_cell)) kinds_are
    ∙ ap (entry_cell own spots) (c.loop-router.invariant.rest router (omega arith)) in
    record {
      count = length-set column router cell ∙ c.loop-router.invariant.count;
      cells = entry_cells_more all spots up column (set column router cell) router own cell here within made refl
          c.loop-router.invariant.cells;
      rest = λ u past. get_or-set_other column router u cell no_cell (λ same. absurd (omega (arith, past, same)))
          ∙ c.loop-router.invariant.rest u (omega (arith, past));
      kinds = λ before one next at.
          let same : router ≡ before = omega (arith, next) in
          kinds_are ∙ ap (λ (o : OfRouter). kinds_of o spots)
          (same_Some own one (sym here ∙ subst (λ (k : ℕ). slice_get all k ≡ Some one) (sym same) at));
    }
