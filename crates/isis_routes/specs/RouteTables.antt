-- The tables of all routers, and who is linked to whom.
use Rattle.std.specs.Prelude.{length}
use Rattle.net_model.specs.Network.{Network}
use Rattle.igp_theory.specs.Isis.{IsisEntry}
use Rattle.igp_theory.specs.Laws.{IsIsisNeighbor}
use Rattle.route_tables.specs.Tables.{Routes, AreRoutes}
pub use Rattle.route_tables.specs.Tables.{router_count, table_at, AreLinked}

-- the tables are those of IS-IS for every router, prefix and entry, and two routers are linked
-- exactly where they are adjacent in level 1 or in level 2
abbrev pub AreIsisRoutes : Network → Routes → Type 0
AreIsisRoutes net routes = AreRoutes (length net) (IsisEntry net) (IsIsisNeighbor net) routes
