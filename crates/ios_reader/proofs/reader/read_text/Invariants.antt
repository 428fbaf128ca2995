use Rattle.std.proofs.Common.{◌≡◌, ◌+◌, false, length}
use Rattle.ios_sections.specs.TextLines.{lines_in, counted_lines}
use Rattle.ios_sections.specs.TellingLines.{telling_lines}
use Rattle.ios_reader.specs.steps.Parts.{IsReadBut}
use Rattle.ios_reader.proofs.reader.read_text.Given as goal

abbrev pub invariant-loop-part : goal.invariant-loop-part
invariant-loop-part l = record {
  read : IsReadBut (telling_lines false (counted_lines (lines_in l.text))) l.told.lines l.part.items l.reading;
  count : l.told.read + l.told.unread ≡ length (lines_in l.text);
}

abbrev pub decreases-loop-part : goal.decreases-loop-part
decreases-loop-part l = length l.told.lines
