use Rattle.std.proofs.Common.{◌≢◌, nat_eq, if◌then◌else◌, subst}
use Rattle.route_core.specs.Rows.{KeptTable, listed}
use Rattle.route_core.specs.Tables.{AreTables}
use Rattle.worked_examples.proofs.tables.PairRouteSource.routers.Goals as goal

pub returns-clause-lawful : goal.returns-clause-lawful
returns-clause-lawful c =
    subst (λ (s : KeptTable × KeptTable). AreTables 2 (λ u. if nat_eq u 0 then listed s.0 else listed s.1) (λ u v. u ≢ v)) c.self.view_is c.self.invariant.0
