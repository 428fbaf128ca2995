use Rattle.std.proofs.Common.{◌≡◌, ℕ, ◌<◌, length}
use Rattle.loop_finder.specs.Mixes.{mix_of}
use Rattle.loop_finder.specs.Rooms.{HasRoom}
use Rattle.loop_finder.specs.Subjects.{class_part_at}
use Rattle.loop_finder.specs.steps.Verdicts.{IsClearAt}
use Rattle.loop_finder.proofs.classes_fault.classes_fault.Given as goal

abbrev pub invariant-loop-place : goal.invariant-loop-place
invariant-loop-place g l = record {
  clear : (k : ℕ) → k < l.place → IsClearAt (mix_of g.O.RouteSource.table g.N.RouteSource.table l.subject.mixed.now) l.span.first.now l.span.last.now
      (class_part_at l.subject.parts.items k).atom;
  room : HasRoom (length l.subject.mixed.now.net) l.room;
  ring : l.room.ring.items ≡ l.fn.room.ring.items;
}
