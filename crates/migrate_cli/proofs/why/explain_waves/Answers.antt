use Rattle.std.proofs.Common.{arith}
use Rattle.std.proofs.lemmas.Grind.{common_steps}
use Rattle.std.proofs.Common.{◌∙◌, ap, length, sym}
use Rattle.net_model.specs.Network.{Network}
use Rattle.migrate_cli.proofs.why.explain_waves.Goals as goal

pub first_unsound_wave-requires : goal.first_unsound_wave-requires
first_unsound_wave-requires c = c.requires.each ∙ ap (λ (net : Network). length net) (sym c.requires.mixes.net_is)

pub waves_reasons-requires-clause-seamless : goal.waves_reasons-requires-clause-seamless
waves_reasons-requires-clause-seamless c = grind (arith, common_steps)

pub waves_way-requires-clause-fault : goal.waves_way-requires-clause-fault
waves_way-requires-clause-fault c = grind (arith, common_steps)
