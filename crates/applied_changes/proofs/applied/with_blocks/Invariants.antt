use Rattle.std.proofs.Common.{◌≡◌, ◌≤◌, ◌++◌, [], drop}
use Rattle.std.specs.List.{slice_range}
use Rattle.igp_theory.specs.States.{state_of}
use Rattle.ios_sections.specs.TextLines.{parts_after}
use Rattle.applied_changes.specs.NamedPhases.{phase_named}
use Rattle.applied_changes.specs.steps.AppliedParts.{applied_parts}
use Rattle.applied_changes.proofs.applied.with_blocks.Given as goal

abbrev pub invariant-loop-i : goal.invariant-loop-i
invariant-loop-i l = record {
  start : l.start ≤ l.i;
  rest : l.all.items ++ applied_parts (phase_named l.net (state_of l.order l.changes)) l.text l.from
      (parts_after (slice_range l.counted l.start l.i) (drop l.i l.counted))
      ≡ applied_parts (phase_named l.net (state_of l.order l.changes)) l.text 0 (parts_after [] l.counted);
}
