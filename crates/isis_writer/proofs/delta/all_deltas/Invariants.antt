use Rattle.std.proofs.Common.{◌≡◌, ◌≤◌, ◌++◌, [], drop}
use Rattle.std.specs.List.{slice_range}
use Rattle.ios_sections.specs.TextLines.{parts_after}
use Rattle.isis_writer.specs.Deltas.{delta_parts}
use Rattle.isis_writer.proofs.delta.all_deltas.Given as goal

abbrev pub invariant-loop-i : goal.invariant-loop-i
invariant-loop-i l = record {
  start : l.start ≤ l.i;
  rest : l.all.items ++ delta_parts l.net l.settled (parts_after (slice_range l.counted l.start l.i) (drop l.i l.counted))
      ≡ delta_parts l.net l.settled (parts_after [] l.counted);
}
