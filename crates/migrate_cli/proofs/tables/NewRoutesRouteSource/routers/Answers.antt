use Rattle.std.proofs.Common.{subst, sym}
use Rattle.route_core.specs.Tables.{AreTables}
use Rattle.ospf_routes.specs.RouteTables.{AreLinked, router_count}
use Rattle.migrate_cli.specs.declared.tables.NewRoutes.{NewRoutes}
use Rattle.migrate_cli.specs.steps.Tables.{new_table, routes_of}
use Rattle.migrate_cli.proofs.tables.NewRoutesRouteSource.routers.Goals as goal

pub returns-in-Isis-clause-lawful : goal.returns-in-Isis-clause-lawful
returns-in-Isis-clause-lawful c =
    subst (λ (new : NewRoutes). AreTables (router_count (routes_of new)) (new_table new) (λ u v. AreLinked (routes_of new) u v)) (sym c.in-Isis.is)
    c.routers.ensures.lawful

pub returns-in-Ospf-clause-lawful : goal.returns-in-Ospf-clause-lawful
returns-in-Ospf-clause-lawful c =
    subst (λ (new : NewRoutes). AreTables (router_count (routes_of new)) (new_table new) (λ u v. AreLinked (routes_of new) u v)) (sym c.in-Ospf.is)
    c.routers-in-Ospf.ensures.lawful
