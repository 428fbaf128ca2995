use Rattle.std.proofs.Common.{arith}
use Rattle.std.proofs.lemmas.Grind.{common_steps}
use Rattle.std.proofs.Common.{◌∙◌, ap, length, sym}
use Rattle.migrate_cli.proofs.check.first_unsound_wave.Goals as goal

pub unsound_wave-requires : goal.unsound_wave-requires
unsound_wave-requires c = c.requires ∙ ap (λ m. length m.net) (sym c.in_ok-finder.ensures.mixture)

pub returns : goal.returns
returns c = grind (arith, common_steps)
