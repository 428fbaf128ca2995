use Rattle.std.proofs.Common.{ℕ, subst}
use Rattle.route_core.specs.Rows.{KeptTable, listed}
use Rattle.route_core.specs.Tables.{AreTables}
use Rattle.worked_networks.proofs.mixtures.AlikeRouteSource.routers.Goals as goal

pub returns-clause-lawful : goal.returns-clause-lawful
returns-clause-lawful c = subst (λ (s : ℕ × KeptTable). AreTables s.0 (λ _. listed s.1) (λ _ _. Unit {0})) c.self.view_is c.self.invariant
