use Rattle.std.proofs.Common.{refl, sym, ◌∙◌}
use Rattle.loop_finder.specs.Times.{times_in}
use Rattle.loop_finder.proofs.CalmLaws.{calm_to_next, calm_further}
use Rattle.loop_finder.proofs.calm.calm_from.Goals as goal

pub loop-wave-init : goal.loop-wave-init
loop-wave-init c = record {
  calm = calm_to_next c.args.part.now (times_in c.args.times.now) c.steppers-steppers.result.now c.args.known c.next_wave-wave.result
      (sym c.moves.ensures ∙ c.if-not-moves.false) c.steppers-steppers.ensures c.requires.known
      (record { first = c.next_wave-wave.ensures.first; second = c.next_wave-wave.ensures.second });
  room = c.requires.room;
  ring = refl;
}

pub loop-wave-preserved : goal.loop-wave-preserved
loop-wave-preserved c =
    let next = c.next_wave-wave-in-loop-wave in
    record {
      calm = calm_further c.args.part.now (times_in c.args.times.now) c.steppers-steppers.result.now c.loop-wave.wave next.result
          (sym c.moves.ensures ∙ c.if-not-moves.false) c.steppers-steppers.ensures c.loop-wave.invariant.calm c.if-stirs_in.ensures.calm
          (record { first = next.ensures.first; second = next.ensures.second });
      room = c.if-stirs_in.ensures.room;
      ring = c.if-stirs_in.ensures.ring ∙ c.loop-wave.invariant.ring;
    }
