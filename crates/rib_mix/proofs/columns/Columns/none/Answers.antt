use Rattle.std.proofs.Common.{◌<◌, ◌∙◌, ap, length, subst}
use Rattle.rib_mix.proofs.ColumnLaws.{row_length, rows_count}
use Rattle.rib_mix.proofs.columns.Columns.none.Goals as goal

pub returns-clause-count : goal.returns-clause-count
returns-clause-count c = rows_count c.args.routers c.in_ok-all.all.items

pub returns-clause-lengths : goal.returns-clause-lengths
returns-clause-lengths c = λ u below.
    row_length c.args.routers c.in_ok-all.all.items u
    (subst (λ n. u < n) (rows_count c.args.routers c.in_ok-all.all.items) below)
    ∙ ap length c.in_ok-all.ensures.items
