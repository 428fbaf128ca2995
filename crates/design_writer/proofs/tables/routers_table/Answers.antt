use Rattle.std.proofs.Common.{◌+◌, drop, ap, subst, sym, ◌∙◌}
use Rattle.std.proofs.lemmas.Option.{get_or_from_slice_get, slice_get_within}
use Rattle.std.proofs.lemmas.List.Elements.{All-contains}
use Rattle.net_model.specs.Configuration.{IsConfiguration}
use Rattle.toml.specs.View.{table_view}
use Rattle.design_file.proofs.NetworkLookups.{drop_at}
use Rattle.design_writer.specs.CostDesigns.{HasTextNames}
use Rattle.design_writer.specs.CostTables.{with_routers}
use Rattle.design_writer.proofs.TextNames.{router_text}
use Rattle.design_writer.proofs.tables.routers_table.Goals as goal

pub add_router-requires-clause-name : goal.add_router-requires-clause-name
add_router-requires-clause-name c =
    let net = c.args.net.now in
    let u = c.loop-number.number in
    let config = c.config.result.now in
    let at = c.config.ensures.router in
    router_text config.name
    (All-contains IsConfiguration net config c.config.ensures.network.configurations
    (u, slice_get_within net u config at, get_or_from_slice_get net u config config at)).name

pub add_router-requires-clause-interfaces : goal.add_router-requires-clause-interfaces
add_router-requires-clause-interfaces c =
    let net = c.args.net.now in
    let u = c.loop-number.number in
    let config = c.config.result.now in
    subst HasTextNames (get_or_from_slice_get net u config config c.config.ensures.router)
    (c.requires u config (slice_get_within net u config c.config.ensures.router))

pub loop-number-preserved : goal.loop-number-preserved
loop-number-preserved c =
    let net = c.args.net.now in
    let u = c.loop-number.number in
    ap (λ ms. with_routers ms (drop (u + 1) net)) c.in_ok-add_router.ensures
    ∙ ap (with_routers (table_view c.loop-number.table)) (sym (drop_at net u c.config.result.now c.config.ensures.router))
    ∙ c.loop-number.invariant
