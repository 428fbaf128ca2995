use Rattle.std.proofs.Common.{◌≡◌, take, reverse}
use Rattle.std.specs.List.{enumerate_from, flat_map}
use Rattle.printed_lines.specs.Texts.{text_of}
use Rattle.live_replan.specs.BackTexts.{undo_part}
use Rattle.live_replan.specs.steps.ToldChanges.{changes_told}
use Rattle.live_replan.proofs.back.back_text.Given as goal

abbrev pub invariant-loop-back : goal.invariant-loop-back
invariant-loop-back l =
    l.text ≡ text_of (flat_map (undo_part l.net) (take l.back (reverse (enumerate_from 1 (changes_told l.changes.items)))))
