use Rattle.std.proofs.Common.{◌≡◌, ◌∙◌, length, ap, arith, refl, rules}
use Rattle.std.proofs.lemmas.Iterator.{YieldsList-from_range, items_from_collect}
use Rattle.std.proofs.lemmas.Result.{IfOk-weaker}
use Rattle.std.specs.List.{range_with_len}
use Rattle.route_core.specs.Rows.{KeptTable}
use Rattle.prefix_atoms.proofs.collect.shared_places.Goals as goal

pub returns : goal.returns
returns g c =
    let many : c.in-Ok.count ≡ length c.parts.result.prefixes.now = search rules in
    let shared : length c.parts.result.prefixes.now ≡ length (g.S.RouteSource.prefixes c.args.source.now) =
    ap length (ap (λ (k : KeptTable). k.prefixes) c.parts.ensures.parts ∙ c.table.ensures.prefixes) in
    IfOk-weaker c.collect.result _ _ (λ places is some. is ∙ ap (range_with_len 0) (many ∙ shared))
    (items_from_collect c.collect.result c.collect.ensures.ran (YieldsList-from_range 0 c.in-Ok.count c.in-Ok.count refl (omega arith)))
