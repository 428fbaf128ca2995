use Rattle.std.proofs.Common.{◌≡◌, ℕ, ◌<◌, length, get_or}
use Rattle.loop_finder.specs.Parts.{ClassPart}
use Rattle.loop_finder.specs.Rooms.{HasRoom}
use Rattle.loop_finder.specs.steps.Watches.{StaysSoundAt}
use Rattle.loop_finder.specs.Mixes.{mix_of}
use Rattle.loop_finder.proofs.change.turned_fault.Given as goal

abbrev pub invariant-loop-place : goal.invariant-loop-place
invariant-loop-place g l = record {
  stays : (j : ℕ) (d : ClassPart) → j < l.place-index
      → StaysSoundAt (mix_of g.O.RouteSource.table g.N.RouteSource.table l.subject.mixed.now)
      (record { phases = l.turned.phases.now; router = l.turned.router; was = l.turned.was })
      (get_or l.subject.parts.items (get_or l.places j 0) d).atom;
  room : HasRoom (length l.subject.mixed.now.net) l.room;
  ring : l.room.ring.items ≡ l.fn.room.ring.items;
}
