use Rattle.std.proofs.Common.{◌≡◌, ◌∷◌, map}
use Rattle.std.specs.Prelude.{codes}
use Rattle.net_model.specs.RouterNames.{names_of}
use Rattle.order_core.specs.Rankings.{numbers_below, wave_of}
use Rattle.printed_lines.specs.Texts.{text_of}
use Rattle.change_orders.specs.TwoFaults.{two_header}
use Rattle.change_orders.specs.TwoTexts.{items_line}
use Rattle.change_orders.proofs.writing.two_text.Given as goal

abbrev pub invariant-loop-wave : goal.invariant-loop-wave
invariant-loop-wave l =
    l.text ≡ text_of (two_header ∷ map (items_line (names_of l.net) (codes "wave")) (map (wave_of l.waves) (numbers_below l.wave)))
