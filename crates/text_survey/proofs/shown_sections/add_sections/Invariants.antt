use Rattle.std.proofs.Common.{◌≡◌, ◌++◌, drop}
use Rattle.std.specs.Prelude.{flat_map}
use Rattle.ios_sections.specs.TextLines.{sections_of}
use Rattle.text_survey.specs.steps.Shown.{shown_section}
use Rattle.text_survey.proofs.shown_sections.add_sections.Given as goal

abbrev pub invariant-loop-i : goal.invariant-loop-i
invariant-loop-i l =
    l.shown.items ++ flat_map shown_section (sections_of (drop l.i l.lines))
    ≡ l.initial.shown.items ++ flat_map shown_section (sections_of l.lines)
