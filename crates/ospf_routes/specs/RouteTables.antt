-- The tables of all routers, and who is linked to whom.
use Rattle.std.specs.Prelude.{length}
use Rattle.net_model.specs.Network.{Network}
use Rattle.igp_theory.specs.Ospf.{OspfEntry}
use Rattle.igp_theory.specs.Laws.{IsOspfNeighbor}
use Rattle.route_tables.specs.Tables.{Routes, AreRoutes}
pub use Rattle.route_tables.specs.Tables.{router_count, table_at, AreLinked}

-- the tables are those of OSPF for every router, prefix and entry, and two routers are linked
-- exactly where they are adjacent in some area
abbrev pub AreOspfRoutes : Network → Routes → Type 0
AreOspfRoutes net routes = AreRoutes (length net) (OspfEntry net) (IsOspfNeighbor net) routes
