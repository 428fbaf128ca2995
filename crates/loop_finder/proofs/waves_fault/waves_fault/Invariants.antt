use Rattle.std.proofs.Common.{◌≡◌, ◌+◌, ◌-◌, ◌≤◌, length}
use Rattle.loop_finder.specs.Mixes.{mix_of}
use Rattle.loop_finder.specs.Times.{times_in}
use Rattle.loop_finder.specs.Works.{IsWork}
use Rattle.loop_finder.specs.steps.Verdicts.{SoundWavesBefore}
use Rattle.loop_finder.proofs.waves_fault.waves_fault.Given as goal

abbrev pub invariant-loop-wave : goal.invariant-loop-wave
invariant-loop-wave g l = record {
  some : 1 ≤ l.wave;
  sound : SoundWavesBefore (mix_of g.O.RouteSource.table g.N.RouteSource.table l.subject.mixed.now) (times_in l.calm.times.items) l.wave;
  work : IsWork (length l.subject.mixed.now.net) l.work;
  ring : l.work.room.ring.items ≡ l.fn.work.room.ring.items;
}

abbrev pub decreases-loop-wave : goal.decreases-loop-wave
decreases-loop-wave g l = l.end + 1 - l.wave
