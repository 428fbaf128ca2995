use Rattle.std.proofs.Common.{◌≡◌, ◌≤◌, ◌++◌, [], drop}
use Rattle.std.specs.List.{slice_range}
use Rattle.ios_sections.specs.TextLines.{parts_after}
use Rattle.isis_writer.specs.Prepared.{new_block, prepared_parts}
use Rattle.isis_writer.proofs.prepared.with_parts.Given as goal

abbrev pub invariant-loop-i : goal.invariant-loop-i
invariant-loop-i l = record {
  start : l.start ≤ l.i;
  rest : l.all.items ++ prepared_parts (new_block l.net l.settled) l.text.bytes.now l.from
      (parts_after (slice_range l.counted l.start l.i) (drop l.i l.counted))
      ≡ prepared_parts (new_block l.net l.settled) l.text.bytes.now 0 (parts_after [] l.counted);
}
