use Rattle.std.proofs.Common.{◌≡◌, ◌∷◌, map}
use Rattle.net_model.specs.RouterNames.{names_of}
use Rattle.order_core.specs.Rankings.{numbers_below, wave_of}
use Rattle.printed_lines.specs.Texts.{text_of}
use Rattle.step_scripts.specs.WaveLines.{header_of}
use Rattle.step_scripts.specs.WavesTexts.{wave_lines}
use Rattle.step_scripts.specs.declared.version.Version.TheVariants.{Two}
use Rattle.step_scripts.proofs.waves_writing.with_waves.Given as goal

abbrev pub invariant-loop-wave : goal.invariant-loop-wave
invariant-loop-wave l = l.text ≡ text_of (header_of Two ∷ wave_lines (names_of l.net) (map (wave_of l.waves) (numbers_below l.wave)))
