use Rattle.std.proofs.Common.{ℕ, get_or, ◌∙◌, subst, below_more}
use Rattle.std.proofs.lemmas.List.{get_or_default}
use Rattle.loop_finder.specs.Parts.{ClassPart}
use Rattle.loop_finder.specs.steps.Watches.{StaysSoundAt}
use Rattle.loop_finder.proofs.WatchLaws.{stays_sound_at_all, turns_faulty_at}
use Rattle.loop_finder.specs.Mixes.{mix_of}
use Rattle.loop_finder.proofs.change.turned_fault.Goals as goal

pub loop-place-preserved : goal.loop-place-preserved
loop-place-preserved g c = record {
  stays = λ j d less. below_more (λ (k : ℕ). StaysSoundAt (mix_of g.O.RouteSource.table g.N.RouteSource.table c.args.subject.now.mixed.now)
      (record { phases = c.args.turned.now.phases.now; router = c.args.turned.now.router; was = c.args.turned.now.was })
      (get_or c.args.subject.now.parts.items (get_or c.args.places.now k 0) d).atom) c.loop-place.place-index
      (λ k below. c.loop-place.invariant.stays k d below)
      (subst (λ (x : ClassPart). StaysSoundAt (mix_of g.O.RouteSource.table g.N.RouteSource.table c.args.subject.now.mixed.now)
      (record { phases = c.args.turned.now.phases.now; router = c.args.turned.now.router; was = c.args.turned.now.was }) x.atom)
      (c.index.ensures ∙ get_or_default c.args.subject.now.parts.items (get_or c.args.places.now c.loop-place.place-index 0) c.index.result.now d
      (c.requires.places.below c.loop-place.place-index 0 c.loop-place-test.true)) c.in_default.ensures.sound) j less;
  room = c.in_default.ensures.room;
  ring = c.in_default.ensures.ring ∙ c.loop-place.invariant.ring;
}

pub returns-in-Some-clause-fault : goal.returns-in-Some-clause-fault
returns-in-Some-clause-fault g c =
    turns_faulty_at (mix_of g.O.RouteSource.table g.N.RouteSource.table c.args.subject.now.mixed.now)
    c.args.subject.now.parts.items c.args.places.now _ c.loop-place.place-index
    c.index.result.now c.in-Some.fault c.part_fault.new.room.ring.items c.requires.subject.parts_are c.requires.places
    c.loop-place-test.true c.index.ensures c.loop-place.invariant.stays c.in-Some.ensures.told

pub returns-clause-sound : goal.returns-clause-sound
returns-clause-sound g c = stays_sound_at_all (mix_of g.O.RouteSource.table g.N.RouteSource.table c.args.subject.now.mixed.now)
    c.args.subject.now.parts.items c.args.places.now _
    c.loop-place.place-index c.requires.subject.parts_are c.requires.places c.loop-place-test.false c.loop-place.invariant.stays
