use Rattle.std.proofs.Common.{◌∙◌, ap, length, replicate, subst, sym}
use Rattle.rib_mix.specs.Cells.{no_cell}
use Rattle.rib_mix.specs.steps.Columns.{AreCellsAt}
use Rattle.rib_mix.proofs.ColumnLaws.{nothing_at, rows_count}
use Rattle.rib_mix.proofs.columns.Columns.copy_at.Goals as goal

pub returns-in_ok-vec-in-None : goal.returns-in_ok-vec-in-None
returns-in_ok-vec-in-None c =
    subst (λ o. AreCellsAt c.args.self.now o c.in_ok-vec-in-None.field-0.items) (sym c.in-None.is)
    (nothing_at c.args.self.now c.in_ok-vec-in-None.field-0.items
    (c.in_ok-vec-in-None.ensures.items_if_clones_equal (λ cell is. is)
    ∙ ap (replicate c.self.inside.routers) c.nothing.ensures
    ∙ ap (λ many. replicate many no_cell)
    (sym (rows_count c.self.inside.routers c.self.inside.all.items) ∙ ap length c.self.view_is)))
