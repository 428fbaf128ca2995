use Rattle.std.proofs.Common.{◌≡◌, ℕ, ◌<◌, get_or}
use Rattle.loop_finder.specs.Calm.{IsUnstirred}
use Rattle.loop_finder.specs.Times.{times_in}
use Rattle.loop_finder.specs.Rooms.{HasRoom}
use Rattle.loop_finder.proofs.calm.stirs_in.Given as goal

abbrev pub invariant-loop-router : goal.invariant-loop-router
invariant-loop-router l = record {
  calm : (k : ℕ) → k < l.router-index → IsUnstirred l.part (times_in l.wave.times.now) l.wave.number (get_or l.steppers k 0);
  room : HasRoom l.wave.routers l.room;
  ring : l.room.ring.items ≡ l.fn.room.ring.items;
}
