use Rattle.std.proofs.Common.{◌≡◌, true}
use Rattle.std.proofs.lemmas.Option.{IfSome_then}
use Rattle.loop_finder.specs.Mixes.{Mix, mix_of}
use Rattle.loop_finder.specs.Times.{times_in}
use Rattle.loop_finder.specs.declared.classes_fault.Stir.{Stir}
use Rattle.loop_finder.specs.steps.Verdicts.{IsClearAt}
use Rattle.loop_finder.specs.steps.WaveStarts.{AreClearParts}
use Rattle.loop_finder.proofs.CalmLaws.{clear_parts}
use Rattle.loop_finder.proofs.ToldOfWaves.{ends_by, told_of_wave}
use Rattle.loop_finder.proofs.waves_fault.wave_fault.Goals as goal

pub classes_fault-requires-clause-stir : goal.classes_fault-requires-clause-stir
classes_fault-requires-clause-stir g c =
    let m : Mix = mix_of g.O.RouteSource.table g.N.RouteSource.table c.args.subject.now.mixed.now in
    IfSome_then c.stir_in-stir.result
    {P = λ (stir : Stir). (c.args.begun ≡ true) × (stir.calm.now.before.items ≡ c.args.calm.now.before.items) × (stir.wave ≡ c.args.wave)}
    {Q = λ (stir : Stir). AreClearParts (IsClearAt m c.as_slice.result.now c.as_slice-2.result.now) c.args.subject.now.parts.items
    c.args.subject.now.pieces.made.items stir.calm.now.before.items stir.wave} c.stir_in-stir.ensures
    (λ stir is. rw (is.1, is.2) (clear_parts m c.args.subject.now.parts.items c.args.subject.now.pieces.all.items c.args.subject.now.pieces.made.items
    (times_in c.args.calm.now.times.items) c.args.calm.now.before.items c.args.wave c.as_slice.result.now c.as_slice-2.result.now
    c.requires.subject.parts_are c.requires.subject.pieces_are.made
    (ends_by c.requires.times c.requires.order c.as_slice.ensures.value c.as_slice-2.ensures.value c.begin_wave.ensures.phases c.end_wave.ensures.phases)
    c.requires.wave c.requires.calm (rw is.0 at c.requires.begun)))

pub returns-clause-sound : goal.returns-clause-sound
returns-clause-sound g c = (told_of_wave {w = c.args.wave} {time = times_in c.args.calm.now.times.items} c.classes_fault.result
    c.classes_fault.new.room.ring.items c.requires.subject.parts_are
    (ends_by c.requires.times c.requires.order c.as_slice.ensures.value c.as_slice-2.ensures.value c.begin_wave.ensures.phases c.end_wave.ensures.phases)
    c.classes_fault.ensures.told).0

pub returns-clause-fault : goal.returns-clause-fault
returns-clause-fault g c = (told_of_wave {w = c.args.wave} {time = times_in c.args.calm.now.times.items} c.classes_fault.result
    c.classes_fault.new.room.ring.items c.requires.subject.parts_are
    (ends_by c.requires.times c.requires.order c.as_slice.ensures.value c.as_slice-2.ensures.value c.begin_wave.ensures.phases c.end_wave.ensures.phases)
    c.classes_fault.ensures.told).1
