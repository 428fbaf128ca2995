use Rattle.std.proofs.Common.{◌≡◌, ◌++◌, map, drop}
use Rattle.ios_sections.specs.Sections.{counted_from, sections_among}
use Rattle.ios_sections.proofs.read_section.read_sections.Given as goal

abbrev pub invariant-loop-i : goal.invariant-loop-i
invariant-loop-i l =
    l.sections.items ++ sections_among (map (counted_from l.first) (drop l.i l.lines)) ≡ sections_among (map (counted_from l.first) l.lines)
