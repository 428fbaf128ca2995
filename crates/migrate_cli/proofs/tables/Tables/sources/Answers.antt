use Rattle.std.proofs.Common.{◌∙◌, ap, subst}
use Rattle.migrate_cli.specs.steps.Tables.{AreBothTables, NetworkMove}
use Rattle.migrate_cli.proofs.tables.Tables.sources.Goals as goal

pub returns-clause-net : goal.returns-clause-net
returns-clause-net c = c.net.ensures ∙ ap (λ (of : NetworkMove). of.net) c.self.view_is

pub returns-clause-tables : goal.returns-clause-tables
returns-clause-tables c = subst (λ (of : NetworkMove). AreBothTables of c.self.inside.old c.self.inside.new) c.self.view_is c.self.invariant
