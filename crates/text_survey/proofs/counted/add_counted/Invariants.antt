use Rattle.std.proofs.Common.{◌≡◌, ◌++◌, map, drop, filter}
use Rattle.ios_sections.specs.TextLines.{text_line, counted_lines, outside_banners, counts}
use Rattle.text_survey.proofs.counted.add_counted.Given as goal

abbrev pub invariant-loop-line : goal.invariant-loop-line
invariant-loop-line l =
    l.counted.items ++ filter counts (outside_banners l.inside (map (text_line l.text) (drop l.line-index l.lines)))
    ≡ l.initial.counted.items ++ counted_lines (map (text_line l.text) l.lines)
