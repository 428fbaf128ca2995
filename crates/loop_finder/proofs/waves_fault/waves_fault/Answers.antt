use Rattle.std.proofs.Common.{◌+◌, ◌∙◌, refl, arith}
use Rattle.loop_finder.specs.Times.{times_in}
use Rattle.loop_finder.proofs.CalmLaws.{sound_waves_before}
use Rattle.loop_finder.proofs.OnFalse.{on_true}
use Rattle.loop_finder.proofs.WaveListFacts.{sound_to_last, sound_more}
use Rattle.loop_finder.proofs.WaveSteps.{begins_sound}
use Rattle.loop_finder.specs.Mixes.{mix_of}
use Rattle.loop_finder.proofs.waves_fault.waves_fault.Goals as goal

pub wave_fault-requires-clause-begun : goal.wave_fault-requires-clause-begun
wave_fault-requires-clause-begun g c = on_true c.begins_sound-known.result c.begins_sound-known.ensures
    (λ known. begins_sound (mix_of g.O.RouteSource.table g.N.RouteSource.table c.args.subject.now.mixed.now)
    (times_in c.args.calm.now.times.items) c.loop-wave.wave c.args.begun
    c.requires.order c.loop-wave.invariant.some c.requires.begun c.loop-wave.invariant.sound known)

pub loop-wave-init : goal.loop-wave-init
loop-wave-init g c = record {
  some = c.first_stirred-wave.ensures.some;
  sound = sound_waves_before (mix_of g.O.RouteSource.table g.N.RouteSource.table c.args.subject.now.mixed.now)
      c.args.subject.now.parts.items c.args.subject.now.pieces.all.items
      c.args.subject.now.pieces.made.items (times_in c.args.calm.now.times.items) c.args.calm.now.before.items c.args.begun
      c.first_stirred-wave.result c.requires.order c.requires.subject.parts_are
      c.requires.subject.pieces_are.made c.requires.calm c.requires.begun
      c.first_stirred-wave.ensures.begun c.first_stirred-wave.ensures.moves c.first_stirred-wave.ensures.calm c.first_stirred-wave.result (omega arith);
  work = c.requires.work;
  ring = refl;
}

pub loop-wave-preserved : goal.loop-wave-preserved
loop-wave-preserved g c = record {
  some = omega arith;
  sound = sound_more (mix_of g.O.RouteSource.table g.N.RouteSource.table c.args.subject.now.mixed.now) (times_in c.args.calm.now.times.items) c.loop-wave.wave
      c.loop-wave.invariant.sound c.in_default.ensures.sound;
  work = c.in_default.ensures.work;
  ring = c.in_default.ensures.ring ∙ c.loop-wave.invariant.ring;
}

pub returns-then-wave-end-clause-sound : goal.returns-then-wave-end-clause-sound
returns-then-wave-end-clause-sound g c =
    sound_to_last (mix_of g.O.RouteSource.table g.N.RouteSource.table c.args.subject.now.mixed.now)
    (times_in c.args.calm.now.times.items) c.last_wave-end.result
    (c.loop-wave.wave + 1) c.requires.order c.last_wave-end.ensures.some
    (λ u within. c.last_wave-end.ensures.last u (omega (arith, within, c.requires.times))) (omega (arith, c.if-wave-end.true))
    (sound_more (mix_of g.O.RouteSource.table g.N.RouteSource.table c.args.subject.now.mixed.now) (times_in c.args.calm.now.times.items) c.loop-wave.wave
    c.loop-wave.invariant.sound c.in_default.ensures.sound)

pub returns-clause-sound : goal.returns-clause-sound
returns-clause-sound g c =
    sound_to_last (mix_of g.O.RouteSource.table g.N.RouteSource.table c.args.subject.now.mixed.now)
    (times_in c.args.calm.now.times.items) c.last_wave-end.result
    c.loop-wave.wave c.requires.order c.last_wave-end.ensures.some
    (λ u within. c.last_wave-end.ensures.last u (omega (arith, within, c.requires.times))) (omega (arith, c.loop-wave-test.false))
    c.loop-wave.invariant.sound
