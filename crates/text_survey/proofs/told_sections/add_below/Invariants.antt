use Rattle.std.proofs.Common.{◌≡◌, ◌++◌, take}
use Rattle.text_survey.specs.ToldLines.{told_below}
use Rattle.text_survey.specs.steps.Inside.{lines_at}
use Rattle.text_survey.proofs.told_sections.add_below.Given as goal

abbrev pub invariant-loop-line : goal.invariant-loop-line
invariant-loop-line l = l.told.items ≡ l.initial.told.items ++ told_below l.place l.head (lines_at l.indent (take l.line-index l.inside))
