use Rattle.std.proofs.Common.{◌≡◌, ◌+◌, length}
use Rattle.ios_sections.specs.TellingLines.{lines_from_number, told_from}
use Rattle.ios_sections.proofs.told_lines.ToldLines.next_line.Given as goal

abbrev pub invariant-loop-bytes : goal.invariant-loop-bytes
invariant-loop-bytes l = record {
  lines : told_from l.self-inside.place (lines_from_number (l.self-inside.number + 1) l.self-inside.rest)
      ≡ told_from l.initial.self-inside.place (lines_from_number (l.initial.self-inside.number + 1) l.initial.self-inside.rest);
  counted : l.self-inside.number + length l.self-inside.rest ≡ l.initial.self-inside.number + length l.initial.self-inside.rest;
}

abbrev pub decreases-loop-bytes : goal.decreases-loop-bytes
decreases-loop-bytes l = length l.self-inside.rest
