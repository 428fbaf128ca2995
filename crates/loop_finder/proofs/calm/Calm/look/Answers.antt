use Rattle.std.proofs.Common.{get_or, arith, sym, ◌∙◌, subst}
use Rattle.std.proofs.lemmas.List.{get_or_default}
use Rattle.loop_finder.specs.Calm.{IsCalmBefore}
use Rattle.loop_finder.specs.Parts.{ClassPart}
use Rattle.loop_finder.specs.Times.{times_in}
use Rattle.loop_finder.proofs.CalmLaws.{calm_set}
use Rattle.loop_finder.proofs.calm.Calm.look.Goals as goal

pub calm_from-requires-clause-known : goal.calm_from-requires-clause-known
calm_from-requires-clause-known c =
    subst (IsCalmBefore c.index.result.now (times_in c.args.times.now)) (sym (c.index-known.ensures
    ∙ get_or_default c.loop-place.self.before.items c.loop-place.place c.index-known.result.now 0 (omega (arith, c.loop-place.invariant.calm.many))))
    (subst (λ (part : ClassPart). IsCalmBefore part (times_in c.args.times.now) (get_or c.loop-place.self.before.items c.loop-place.place 0))
    (sym c.index.ensures) (c.loop-place.invariant.calm.each c.loop-place.place c.index.result.now (omega arith)))

pub loop-place-preserved : goal.loop-place-preserved
loop-place-preserved c = record {
  times = c.loop-place.invariant.times;
  calm = calm_set c.args.pieces.now.all.items (times_in c.args.times.now) c.loop-place.self.before.items c.loop-place.place c.calm_from.result
      (omega (arith, c.loop-place-test.true, c.loop-place.invariant.calm.many))
      (λ d. subst (λ (part : ClassPart). IsCalmBefore part (times_in c.args.times.now) c.calm_from.result)
      (c.index.ensures ∙ get_or_default c.args.pieces.now.all.items c.loop-place.place c.index.result.now d (omega arith))
      c.calm_from.ensures.calm) c.loop-place.invariant.calm;
  room = c.calm_from.ensures.room;
  ring = c.calm_from.ensures.ring ∙ c.loop-place.invariant.ring;
}
