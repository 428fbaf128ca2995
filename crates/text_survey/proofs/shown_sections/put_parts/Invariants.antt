use Rattle.std.proofs.Common.{◌≡◌, ◌≤◌, [], take}
use Rattle.std.specs.Prelude.{flat_map}
use Rattle.std.specs.List.{slice_range}
use Rattle.ios_sections.specs.TextLines.{parts_after, rest_after}
use Rattle.text_survey.specs.steps.Shown.{shown_part}
use Rattle.text_survey.proofs.shown_sections.put_parts.Given as goal

abbrev pub invariant-loop-i : goal.invariant-loop-i
invariant-loop-i l = record {
  start : l.start ≤ l.i;
  rest : slice_range l.counted l.start l.i ≡ rest_after [] (take l.i l.counted);
  shown : l.shown.items ≡ flat_map shown_part (parts_after [] (take l.i l.counted));
}
