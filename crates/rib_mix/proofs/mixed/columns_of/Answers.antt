use Rattle.std.proofs.Common.{◌≡◌, ◌∙◌, ℕ, ◌<◌, ◌++◌, ◌∷◌, List, Option, [], None, Some, IfSome, ap, arith, drop}
use Rattle.std.proofs.Common.{get_or, length, slice_get}
use Rattle.std.proofs.Common.{subst, sym, take}
use Rattle.std.proofs.lemmas.List.{get_or_default, take-append-le, take_all}
use Rattle.std.proofs.lemmas.Option.{get_or_from_slice_get, slice_get_within}
use Rattle.prefix_atoms.proofs.Pushed.{at_place}
use Rattle.rib_mix.specs.Cells.{cell_at, no_cell}
use Rattle.rib_mix.specs.declared.cell.Cell.{Cell}
use Rattle.rib_mix.specs.declared.own.OfRouter.{OfRouter}
use Rattle.rib_mix.specs.declared.sorts.Sorts.{Sorts}
use Rattle.rib_mix.specs.steps.Likeness.{PlacedPrefixes}
use Rattle.rib_mix.specs.steps.OwnCells.{AreKindCells, HaveAllCodes, has_in}
use Rattle.rib_mix.specs.steps.Unlike.{HaveCells}
use Rattle.rib_mix.specs.steps.Uses.{cell_over}
use Rattle.rib_mix.proofs.OwnLaws.{all_codes, parent_cells}
use Rattle.rib_mix.proofs.RowLaws.{row_of_cells}
use Rattle.rib_mix.proofs.SortLaws.{cells_more}
use Rattle.rib_mix.proofs.mixed.columns_of.Goals as goal

-- the parents' sort that is read is that of the sort
parent_read : (parents : List (Option ℕ)) (sort : ℕ) (read : Option ℕ) → sort < length parents → read ≡ get_or parents sort read
    → read ≡ get_or parents sort None
parent_read parents sort read within is = is ∙ get_or_default parents sort read None within

-- cells that are written over as many others are these
written : (new old : List Cell) (count : ℕ) → length new ≡ length old → length old ≡ count
    → take count (new ++ drop (length new) old) ≡ new
written new old count same many =
    take-append-le count new (drop (length new) old) (omega (arith, same, many)) ∙ take_all count new (omega (arith, same, many))

pub copy_at-requires : goal.copy_at-requires
copy_at-requires c =
    let sorts : Sorts = c.args.shared.now.sorts.now in
    let sort : ℕ = c.loop-sort.sort in
    let below : sort < length sorts.firsts.items = omega (arith, c.loop-sort-test.true, c.len-count.ensures) in
    let parent_is : c.index.result.now ≡ get_or sorts.parents.items sort None =
    parent_read sorts.parents.items sort c.index.result.now (omega (arith, below, c.requires.sorts.sorting.count))
    c.index.ensures in
    subst (λ (o : Option ℕ). IfSome o (HaveCells c.loop-sort.columns)) (sym parent_is)
    (parent_cells (record { spots = c.args.shared.now.spots.now; homes = c.args.shared.now.homes.now })
    c.in_ok-all.all.items sorts
    sort c.loop-sort.columns (get_or sorts.parents.items sort None)
    (omega (arith, c.loop-sort.invariant.count, c.in_ok-all.ensures.count, c.requires.tables.count)) c.loop-sort.invariant.each
    (c.requires.sorts.sorting.parents sort below))

pub fill_sort-requires-clause-codes : goal.fill_sort-requires-clause-codes
fill_sort-requires-clause-codes c =
    subst HaveAllCodes (sym c.as_slice.ensures.value)
    (all_codes c.args.net.now c.args.tables.now c.in_ok-all.all.items c.requires.tables c.in_ok-all.ensures)

pub loop-sort-preserved : goal.loop-sort-preserved
loop-sort-preserved c =
    let sorts : Sorts = c.args.shared.now.sorts.now in
    let sort : ℕ = c.loop-sort.sort in
    let places : PlacedPrefixes = record { spots = c.args.shared.now.spots.now; homes = c.args.shared.now.homes.now } in
    let owns : List OfRouter = c.in_ok-all.all.items in
    let rows : List (List Cell) = c.loop-sort.columns in
    let column : List Cell = c.fill_sort.new.column in
    let first : ℕ = get_or sorts.firsts.items sort 0 in
    let parent : Option ℕ = get_or sorts.parents.items sort None in
    let below : sort < length sorts.firsts.items = omega (arith, c.loop-sort-test.true, c.len-count.ensures) in
    let parent_is : c.index.result.now ≡ parent =
    parent_read sorts.parents.items sort c.index.result.now (omega (arith, below, c.requires.sorts.sorting.count))
    c.index.ensures in
    let many : length owns ≡ length rows =
    omega (arith, c.loop-sort.invariant.count, c.in_ok-all.ensures.count, c.requires.tables.count) in
    let long : length column ≡ length c.in_ok-column.column.items =
    c.fill_sort.ensures.count ∙ ap length c.deref_mut.ensures.value in
    let kept : take c.in_ok-column.column.len (column ++ drop (length column) c.in_ok-column.column.items) ≡ column =
    written column c.in_ok-column.column.items c.in_ok-column.column.len long (omega (arith, c.in_ok-column.column.ok.0)) in
    record {
      count = c.in_ok-add.ensures.count ∙ c.loop-sort.invariant.count;
      each = λ u own at.
          let in_rows : u < length rows = omega (arith, slice_get_within owns u own at, many) in
          let over : Cell → Cell = cell_over (has_in places u own first) own.old_first in
          cells_more places u own sorts sort (get_or rows u []) (get_or c.add.new.self u []) (get_or column u no_cell)
          (c.requires.sorts.sorting.parents sort below)
          (λ earlier before. c.requires.sorts.sorting.parents earlier (omega (arith, before, below)))
          (c.fill_sort.ensures.cells u own
          (subst (λ (xs : List OfRouter). slice_get xs u ≡ Some own) (sym c.as_slice.ensures.value) at)
          ∙ ap (λ (cells : List Cell). over (get_or cells u no_cell)) c.deref_mut.ensures.value
          ∙ ap over (c.in_ok-column.ensures.each u in_rows)
          ∙ ap (λ (o : Option ℕ). over (cell_at (get_or rows u []) o)) parent_is)
          (c.in_ok-add.ensures.each u in_rows
          ∙ ap (λ (cells : List Cell). get_or rows u [] ++ get_or cells u no_cell ∷ []) kept)
          (c.loop-sort.invariant.each u own at);
    }

pub returns : goal.returns
returns c = record {
  count = c.loop-sort.invariant.count;
  each = λ u row at both at_both.
      let sorts : Sorts = c.args.shared.now.sorts.now in
      let places : PlacedPrefixes = record { spots = c.args.shared.now.spots.now; homes = c.args.shared.now.homes.now } in
      let owns : List OfRouter = c.in_ok-all.all.items in
      let one = at_place owns u (omega (arith, slice_get_within c.args.tables.now u both at_both, c.in_ok-all.ensures.count)) in
      row_of_cells (record { net = c.args.net.now; tables = c.args.tables.now }) c.args.shared.now.atoms.now
      places.spots places.homes sorts u both one.0 row (record {
        tables_are = c.requires.tables;
        occur = c.requires.occur;
        classing = c.requires.classing;
        spots_are = c.requires.spots;
        homes_are = c.requires.homes;
        sorts_are = c.requires.sorts;
      }) at_both (c.in_ok-all.ensures.each u one.0 one.1 both at_both)
      (subst (λ (n : ℕ). AreKindCells places u one.0 sorts n row)
      (omega (arith, c.loop-sort.auto.sort-end, c.loop-sort-test.false, c.len-count.ensures))
      (subst (AreKindCells places u one.0 sorts c.loop-sort.sort) (get_or_from_slice_get c.loop-sort.columns u row [] at)
      (c.loop-sort.invariant.each u one.0 one.1)));
}
