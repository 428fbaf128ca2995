use Rattle.std.proofs.Common.{arith}
use Rattle.std.proofs.lemmas.Grind.{common_steps}
use Rattle.std.proofs.Common.{◌∙◌, ap, length, sym}
use Rattle.std.proofs.lemmas.Result.{IfOk-weaker}
use Rattle.net_model.specs.Network.{Network}
use Rattle.migrate_cli.proofs.ExplainedFacts.{reasons_of}
use Rattle.migrate_cli.proofs.why.with_reasons.Goals as goal

pub reasons_text-requires-clause-routers : goal.reasons_text-requires-clause-routers
reasons_text-requires-clause-routers c = c.requires.each ∙ ap (λ (net : Network). length net) (sym c.requires.mixes.net_is)

pub returns : goal.returns
returns c = grind (arith, common_steps, IfOk-weaker, reasons_of)
