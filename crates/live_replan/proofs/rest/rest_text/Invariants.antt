use Rattle.std.proofs.Common.{◌≡◌, ◌∷◌, map}
use Rattle.net_model.specs.RouterNames.{names_of}
use Rattle.order_core.specs.Rankings.{numbers_below, wave_of}
use Rattle.printed_lines.specs.Texts.{text_of}
use Rattle.step_scripts.specs.WavesTexts.{wave_lines}
use Rattle.live_replan.specs.RestTexts.{rest_header, rest_of}
use Rattle.live_replan.proofs.rest.rest_text.Given as goal

abbrev pub invariant-loop-wave : goal.invariant-loop-wave
invariant-loop-wave l =
    l.text ≡ text_of (rest_header ∷ wave_lines (names_of l.net) (map (rest_of l.start) (map (wave_of l.waves) (numbers_below l.wave))))
