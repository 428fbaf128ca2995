use Rattle.std.proofs.lemmas.Grind.{common_steps}
use Rattle.std.proofs.Common.{◌≡◌, List, Some, slice_get, get_or, sym, ap, subst, ◌∙◌, arith}
use Rattle.std.proofs.lemmas.List.{get_or_default}
use Rattle.route_core.specs.declared.entry.Entry.{Entry}
use Rattle.route_core.specs.declared.entry.Entry.TheVariants.{Discard}
use Rattle.route_core.specs.Rows.{KeptTable, Row, row_prefix, rows_in}
use Rattle.route_core.proofs.RowLaws.{listed_at, row_at_numbered}
use Rattle.route_core.proofs.table.Table.entry.Goals as goal

pub index-requires : goal.index-requires
index-requires c = grind (arith, common_steps, row_at_numbered)

pub returns : goal.returns
returns c =
    let kept : KeptTable = c.args.self.now in
    let row : Row = record { place = c.row_at-number.result.0; number = c.row_at-number.result.1 } in
    let at : slice_get (rows_in kept) c.args.i ≡ Some row =
    subst (λ (k : KeptTable). slice_get (rows_in k) c.args.i ≡ Some row) c.parts.ensures.parts c.row_at-number.ensures in
    let own : c.self.inside.entries.value.items ≡ kept.entries = ap (λ (k : KeptTable). k.entries) c.self.view_is in
    let same : c.deref.result.now.items ≡ kept.entries = cc in
    let e : Entry = c.index.result.now in
    let read : get_or kept.entries row.number Discard ≡ e =
    get_or_default kept.entries row.number Discard e (row_at_numbered kept c.args.i row c.parts.ensures.table at)
    ∙ ap (λ (l : List Entry). get_or l row.number e) (sym same) ∙ sym c.index.ensures in
    (row_prefix kept.prefixes row, listed_at kept c.args.i row at ∙ ap (λ (f : Entry). Some (row_prefix kept.prefixes row, f)) read)
