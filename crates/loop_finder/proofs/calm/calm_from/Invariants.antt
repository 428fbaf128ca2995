use Rattle.std.proofs.Common.{◌≡◌, ◌-◌}
use Rattle.loop_finder.specs.Calm.{IsCalmBefore}
use Rattle.loop_finder.specs.Rooms.{HasRoom}
use Rattle.loop_finder.specs.Times.{times_in}
use Rattle.loop_finder.proofs.calm.calm_from.Given as goal

abbrev pub invariant-loop-wave : goal.invariant-loop-wave
invariant-loop-wave l = record {
  calm : IsCalmBefore l.part (times_in l.times) l.wave;
  room : HasRoom l.routers l.room;
  ring : l.room.ring.items ≡ l.fn.room.ring.items;
}

abbrev pub decreases-loop-wave : goal.decreases-loop-wave
decreases-loop-wave l = 0xFFFF_FFFF - l.wave
