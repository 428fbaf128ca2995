use Rattle.std.proofs.Common.{ℕ, length, arith, ◌∙◌, below_more}
use Rattle.loop_finder.specs.Mixes.{Mix, mix_of}
use Rattle.loop_finder.specs.Subjects.{no_part, class_part_at}
use Rattle.loop_finder.specs.steps.Verdicts.{IsClearAt}
use Rattle.loop_finder.proofs.PartLists.{sound_before, sound_whole}
use Rattle.loop_finder.proofs.classes_fault.classes_fault.Goals as goal

pub loop-place-preserved : goal.loop-place-preserved
loop-place-preserved g c = record {
  clear = below_more (λ (k : ℕ). IsClearAt (mix_of g.O.RouteSource.table g.N.RouteSource.table c.args.subject.now.mixed.now)
      c.args.span.now.first.now c.args.span.now.last.now (class_part_at c.args.subject.now.parts.items k).atom) c.loop-place.place
      c.loop-place.invariant.clear c.in_default.ensures.clear;
  room = c.in_default.ensures.room;
  ring = c.in_default.ensures.ring ∙ c.loop-place.invariant.ring;
}

pub returns-in-Some-clause-told : goal.returns-in-Some-clause-told
returns-in-Some-clause-told g c =
    let m : Mix = mix_of g.O.RouteSource.table g.N.RouteSource.table c.args.subject.now.mixed.now in
    record {
      atom = (class_part_at c.args.subject.now.parts.items c.loop-place.place).atom;
      within = c.requires.subject.parts_are.below c.loop-place.place no_part (omega arith);
      before = λ k below state between. sound_before m c.args.subject.now.parts.items (length m.classes.samples) c.loop-place.place no_part state
          c.requires.subject.parts_are (omega arith) (λ q less. c.loop-place.invariant.clear q less state between) k below;
      here = c.in-Some.ensures.told;
    }

pub returns-clause-told : goal.returns-clause-told
returns-clause-told g c k below state between =
    let m : Mix = mix_of g.O.RouteSource.table g.N.RouteSource.table c.args.subject.now.mixed.now in
    sound_whole m c.args.subject.now.parts.items (length m.classes.samples) no_part state c.requires.subject.parts_are
    (λ q less. c.loop-place.invariant.clear q (omega (arith, less)) state between) k below
