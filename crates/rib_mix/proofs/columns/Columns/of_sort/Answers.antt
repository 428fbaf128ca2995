use Rattle.std.proofs.Common.{◌≡◌, ◌∙◌, [], List, ap, arith, get_or, length}
use Rattle.rib_mix.specs.declared.cell.Cell.{Cell}
use Rattle.rib_mix.proofs.ColumnLaws.{column_shown, no_column}
use Rattle.rib_mix.proofs.columns.Columns.of_sort.Goals as goal

pub returns-in-Some : goal.returns-in-Some
returns-in-Some c =
    let shown : List (List Cell) = c.deref.result.now in
    let found = c.in-Some.ensures.lookup.3 in
    let same : shown ≡ c.self.inside.all.items = c.deref.ensures.value in
    column_shown c.self.inside.routers c.args.sort c.self.inside.all.items c.as_slice.result.now c.args.self.now c.self.invariant
    c.self.view_is
    (omega (arith, found.0, ap length same))
    (c.as_slice.ensures.value ∙ c.column.view_is ∙ found.1 []
    ∙ ap (λ (columns : List (List Cell)). get_or columns c.args.sort []) same)

pub returns-in-None : goal.returns-in-None
returns-in-None c =
    no_column c.self.inside.routers c.args.sort c.self.inside.all.items c.args.self.now c.self.view_is c.requires
    (omega (arith, c.in-None.ensures.lookup.3, ap length c.deref.ensures.value))
