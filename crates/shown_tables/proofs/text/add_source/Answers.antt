use Rattle.std.proofs.Common.{List, sym, subst}
use Rattle.net_addr.specs.Addresses.{Block}
use Rattle.shown_tables.specs.steps.Places.{AreInPrefixOrder}
use Rattle.shown_tables.proofs.TableEntries.{source_hops}
use Rattle.shown_tables.proofs.text.add_source.Goals as goal

pub add_table-requires-clause-hops : goal.add_table-requires-clause-hops
add_table-requires-clause-hops g c =
    source_hops _ _ c.args.owner.router (g.S.RouteSource.table c.args.from.now.source.now)
    (g.S.RouteSource.linked c.args.from.now.source.now) _ c.routers.ensures.lawful
    c.requires.routers c.requires.router c.table.ensures.entries

pub add_table-requires-clause-places : goal.add_table-requires-clause-places
add_table-requires-clause-places g c =
    subst (λ (prefixes : List Block). AreInPrefixOrder c.args.owner.igp prefixes c.args.from.now.places.now)
    (sym c.table.ensures.prefixes) c.requires.places
