use Rattle.std.proofs.Common.{◌≡◌, ◌∙◌, ℕ, List, Option, [], None, ap, arith, get_or, subst}
use Rattle.std.proofs.lemmas.List.{get_or_default}
use Rattle.rib_mix.specs.steps.Likeness.{own_placed}
use Rattle.rib_mix.specs.steps.OwnCells.{Connects}
use Rattle.rib_mix.proofs.OwnLaws.{column_cells}
use Rattle.rib_mix.proofs.mixed.fill_sort.Goals as goal

pub returns-clause-cells : goal.returns-clause-cells
returns-clause-cells c =
    let firsts : List ℕ = c.args.shared.now.sorts.now.firsts.items in
    let first : ℕ = get_or firsts c.args.sort 0 in
    let olds : List (Option ℕ) = c.args.shared.now.spots.now.olds.items in
    let news : List (Option ℕ) = c.args.shared.now.spots.now.news.items in
    let homes : List (List ℕ) = c.args.shared.now.homes.now in
    let first_is : c.index.result.now ≡ first =
    c.index.ensures ∙ get_or_default firsts c.args.sort c.index.result.now 0 c.requires.sort in
    let old_is : c.index-2.result.now ≡ get_or olds first None =
    c.index-2.ensures ∙ get_or_default olds c.index.result.now c.index-2.result.now None
    (omega (arith, first_is, c.requires.places.olds))
    ∙ ap (λ (k : ℕ). get_or olds k None) first_is in
    let new_is : c.index-3.result.now ≡ get_or news first None =
    c.index-3.ensures ∙ get_or_default news c.index.result.now c.index-3.result.now None
    (omega (arith, first_is, c.requires.places.news))
    ∙ ap (λ (k : ℕ). get_or news k None) first_is in
    let homes_are : c.as_slice.result.now ≡ get_or homes first [] =
    c.as_slice.ensures
    ∙ get_or_default homes c.index.result.now c.index-shared-first.result [] (omega (arith, first_is, c.requires.places.homes))
    ∙ ap (λ (k : ℕ). get_or homes k []) first_is in
    column_cells (own_placed c.args.shared.now) c.args.all.now first
    (record { old = c.index-2.result.now; new = c.index-3.result.now }) c.args.column.now c.fill_column.new.column
    c.connect.new.column old_is new_is (c.fill_column.ensures.count ∙ c.requires.many) c.fill_column.ensures.cells
    (subst (λ (seen : List ℕ). Connects seen c.fill_column.new.column c.connect.new.column) homes_are c.connect.ensures)
