-- What is migrated, and the tables before and after, as the code holds them.
use Rattle.std.specs.Prelude.{◌≡◌, ℕ, List, Option, None, Some, IfSome, length}
use Rattle.net_addr.specs.Addresses.{Block}
use Rattle.net_model.specs.Network.{Network}
use Rattle.igp_theory.specs.Isis.{IsisEntry}
use Rattle.igp_theory.specs.Laws.{HaveSameTables}
use Rattle.igp_theory.specs.Migrations.{Migration, migration}
use Rattle.igp_theory.specs.Ospf.{OspfEntry}
use Rattle.igp_theory.specs.Routes.{HaveSameEntries, Tables}
use Rattle.ospf_routes.specs.RouteTables.{AreOspfRoutes, router_count, table_at}
use Rattle.ospf_routes.specs.declared.source.OspfRoutes.{OspfRoutes}
use Rattle.rib_mix.specs.Mixture.{Mixture, migration_of}
use Rattle.route_core.specs.Tables.{HasEntry}
use Rattle.route_core.specs.declared.entry.Entry.{Entry}
use Rattle.route_tables.specs.Tables.{Routes}
use Rattle.migrate_cli.specs.declared.tables.NewRoutes.{NewRoutes}
use Rattle.migrate_cli.specs.declared.tables.NewRoutes.TheVariants.{Isis, Ospf}

-- a network, and its redesign where a second OSPF process takes over and not IS-IS
pub record NetworkMove : Type 0 where
  pub net : Network
  pub redesign : Option Network

abbrev pub network_move : Network → Option Network → NetworkMove
network_move net redesign = record { net = net; redesign = redesign }

-- the redesign has as many routers
abbrev pub HasAsMany : NetworkMove → Type 0
HasAsMany m = IfSome m.redesign (λ new. length new ≡ length m.net)

-- the tables that take over
abbrev pub new_entries : Network → Option Network → Tables
new_entries net None = IsisEntry net
new_entries net (Some new) = OspfEntry new

-- the migration
abbrev pub move_of : NetworkMove → Migration
move_of m = migration m.net (OspfEntry m.net) (new_entries m.net m.redesign)

-- the tables of either protocol
abbrev pub routes_of : NewRoutes → Routes
routes_of (Isis routes) = routes
routes_of (Ospf routes) = routes

abbrev pub new_table : NewRoutes → ℕ → List (Block × Entry)
new_table new u = table_at (routes_of new) u

-- the tables that take over are these, of as many routers
pub record AreNewRoutes (m : NetworkMove) (new : NewRoutes) : Type 0 where
  pub routers : router_count (routes_of new) ≡ length m.net
  pub entries : HaveSameEntries m.net (HasEntry (new_table new)) (new_entries m.net m.redesign)

-- the old ones are those of OSPF, and the new ones those that take over
pub record AreBothTables (m : NetworkMove) (old : OspfRoutes) (new : NewRoutes) : Type 0 where
  pub old_tables : AreOspfRoutes m.net old
  pub new_tables : AreNewRoutes m new

-- a mixture is over the network, and its tables have the entries of both at its routers
pub record MixesTables (m : NetworkMove) (mixture : Mixture OspfRoutes NewRoutes) : Type 0 where
  pub net_is : mixture.net ≡ m.net
  pub same : HaveSameTables (migration_of table_at new_table mixture) (OspfEntry m.net) (new_entries m.net m.redesign)
