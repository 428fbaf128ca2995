use Rattle.std.proofs.Common.{◌≡◌, IfOk, subst}
use Rattle.net_model.specs.Network.{Network}
use Rattle.migrate_cli.specs.steps.Tables.{MixesTables}
use Rattle.migrate_cli.proofs.TableFacts.{mixed_tables}
use Rattle.migrate_cli.proofs.tables.Tables.mix.Goals as goal

pub returns : goal.returns
returns c =
    subst (λ of. IfOk c.build.result (MixesTables of)) c.self.view_is
    (mixed_tables c.self.inside.of.now c.self.inside.old c.self.inside.new c.self.invariant c.build.result
    (subst (λ (net : Network). IfOk c.build.result (λ m. m.net ≡ net)) c.net.ensures c.build.ensures.net) c.build.ensures.old c.build.ensures.new)
