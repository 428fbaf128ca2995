use Rattle.std.proofs.Common.{◌≢◌, subst}
use Rattle.route_core.specs.Rows.{KeptTable, listed}
use Rattle.route_core.specs.Tables.{AreTables}
use Rattle.worked_networks.proofs.classes.DropperRouteSource.routers.Goals as goal

pub returns-clause-lawful : goal.returns-clause-lawful
returns-clause-lawful c = subst (λ (s : KeptTable). AreTables 1 (λ _. listed s) (λ u v. u ≢ v)) c.self.view_is c.self.invariant
