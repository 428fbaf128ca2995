use Rattle.std.proofs.Common.{◌≡◌, ◌++◌, drop}
use Rattle.std.specs.Prelude.{flat_map}
use Rattle.ios_sections.specs.TextLines.{sections_of}
use Rattle.text_survey.specs.ToldLines.{told_section}
use Rattle.text_survey.proofs.told_sections.add_sections.Given as goal

abbrev pub invariant-loop-i : goal.invariant-loop-i
invariant-loop-i l =
    l.told.items ++ flat_map (told_section l.names) (sections_of (drop l.i l.lines))
    ≡ l.initial.told.items ++ flat_map (told_section l.names) (sections_of l.lines)
