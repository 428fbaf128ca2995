use Rattle.std.proofs.Common.{◌≡◌, List, Some, length, slice_get, get_or, sym, ap, subst, ◌∙◌, arith}
use Rattle.std.proofs.lemmas.List.{get_or_default}
use Rattle.net_addr.specs.Addresses.{Block, default_prefix}
use Rattle.route_core.specs.declared.entry.Entry.{Entry}
use Rattle.route_core.specs.declared.entry.Entry.TheVariants.{Discard}
use Rattle.route_core.specs.Rows.{KeptTable, Row, rows_in}
use Rattle.route_core.proofs.RowLaws.{listed_at, row_at_is}
use Rattle.route_core.proofs.table.Table.dest.Goals as goal

pub index-requires : goal.index-requires
index-requires c =
    let kept : KeptTable = c.args.self.now in
    let row : Row = record { place = c.row_at-place.result.0; number = c.row_at-place.result.1 } in
    let at : slice_get (rows_in kept) c.args.i ≡ Some row =
    subst (λ (k : KeptTable). slice_get (rows_in k) c.args.i ≡ Some row) c.parts.ensures.parts c.row_at-place.ensures in
    let own : c.self.inside.prefixes.value.items ≡ kept.prefixes = ap (λ (k : KeptTable). k.prefixes) c.self.view_is in
    let same : kept.prefixes ≡ c.deref.result.now.items = cc in
    let long = ap length same in
    omega (arith, long, (row_at_is kept c.args.i row at).below, c.deref.result.now.ok)

pub returns : goal.returns
returns c =
    let kept : KeptTable = c.args.self.now in
    let row : Row = record { place = c.row_at-place.result.0; number = c.row_at-place.result.1 } in
    let at : slice_get (rows_in kept) c.args.i ≡ Some row =
    subst (λ (k : KeptTable). slice_get (rows_in k) c.args.i ≡ Some row) c.parts.ensures.parts c.row_at-place.ensures in
    let own : c.self.inside.prefixes.value.items ≡ kept.prefixes = ap (λ (k : KeptTable). k.prefixes) c.self.view_is in
    let same : c.deref.result.now.items ≡ kept.prefixes = cc in
    let p : Block = c.index.result.now in
    let read : get_or kept.prefixes row.place default_prefix ≡ p =
    get_or_default kept.prefixes row.place default_prefix p (row_at_is kept c.args.i row at).below
    ∙ ap (λ (l : List Block). get_or l row.place p) (sym same) ∙ sym c.index.ensures in
    let e : Entry = get_or kept.entries row.number Discard in
    (e, listed_at kept c.args.i row at ∙ ap (λ (q : Block). Some (q, e)) read)
