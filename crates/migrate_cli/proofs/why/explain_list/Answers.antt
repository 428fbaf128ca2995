use Rattle.std.proofs.Common.{arith}
use Rattle.std.proofs.lemmas.Grind.{common_steps}
use Rattle.std.proofs.Common.{◌∙◌, ap, length, sym}
use Rattle.migrate_cli.specs.steps.Tables.{NetworkMove}
use Rattle.migrate_cli.proofs.why.explain_list.Goals as goal

pub explain_mixed-requires-clause-each : goal.explain_mixed-requires-clause-each
explain_mixed-requires-clause-each c = c.requires ∙ ap (λ (of : NetworkMove). length of.net) (sym c.in_ok-tables.ensures)

pub returns : goal.returns
returns c = grind (arith, common_steps)
