use Rattle.std.proofs.Common.{◌≡◌}
use Rattle.loop_finder.specs.Calm.{AreCalm}
use Rattle.loop_finder.specs.Times.{times_in}
use Rattle.loop_finder.specs.Rooms.{HasRoom}
use Rattle.loop_finder.proofs.calm.Calm.look.Given as goal

abbrev pub invariant-loop-place : goal.invariant-loop-place
invariant-loop-place l = record {
  times : l.self.times.items ≡ l.fn.self.times.items;
  calm : AreCalm l.pieces.all.items (times_in l.times) l.self.before.items;
  room : HasRoom l.routers l.room;
  ring : l.room.ring.items ≡ l.fn.room.ring.items;
}
