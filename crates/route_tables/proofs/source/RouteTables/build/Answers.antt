use Rattle.std.proofs.Common.{map}
use Rattle.route_core.specs.Rows.{listed}
use Rattle.route_tables.specs.Tables.{prefixes_of_first}
use Rattle.route_tables.proofs.KeptTables.{are_routes, are_source_tables}
use Rattle.route_tables.proofs.source.RouteTables.build.Goals as goal

pub invariant_of-result : goal.invariant_of-result
invariant_of-result g c =
    are_source_tables (g.P.Protocol.routes c.args.protocol.now).routers (g.P.Protocol.routes c.args.protocol.now).entry
    (g.P.Protocol.neighbor c.args.protocol.now) (g.P.Protocol.candidates c.args.protocol.now) c.in_ok-tables.tables.items c.args.segments.items
    c.all_tables.ensures.lawful c.in_ok-tables.ensures.tables c.in_ok-tables.ensures.prefixes c.requires

pub returns : goal.returns
returns g c =
    are_routes (g.P.Protocol.routes c.args.protocol.now).routers (g.P.Protocol.routes c.args.protocol.now).entry (g.P.Protocol.neighbor c.args.protocol.now)
    (prefixes_of_first c.in_ok-tables.tables.items) (map listed c.in_ok-tables.tables.items)
    c.args.segments.items c.in_ok-tables.ensures.tables c.requires
