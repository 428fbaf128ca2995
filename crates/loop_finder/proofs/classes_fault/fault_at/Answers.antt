use Rattle.std.proofs.Common.{arith}
use Rattle.std.proofs.lemmas.Grind.{common_steps}
use Rattle.std.proofs.Common.{◌≡◌, ap, ◌∙◌}
use Rattle.std.proofs.lemmas.List.{get_or_default}
use Rattle.loop_finder.specs.Mixes.{mix_of}
use Rattle.loop_finder.specs.Parts.{ClassPart}
use Rattle.loop_finder.specs.Subjects.{no_part, class_part_at}
use Rattle.loop_finder.proofs.Between.{told_of_class}
use Rattle.loop_finder.proofs.classes_fault.fault_at.Goals as goal

pub returns-clause-clear : goal.returns-clause-clear
returns-clause-clear g c =
    let here : c.index.result.now ≡ class_part_at c.args.subject.now.parts.items c.args.place =
    c.index.ensures ∙ get_or_default c.args.subject.now.parts.items c.args.place c.index.result.now no_part c.requires.place in
    (told_of_class (mix_of g.O.RouteSource.table g.N.RouteSource.table c.args.subject.now.mixed.now) c.args.span.now.first.now
    c.args.span.now.last.now (class_part_at c.args.subject.now.parts.items c.args.place).atom c.index.result.now.atom c.class_fault.result
    c.class_fault.new.room.ring.items (ap (λ (x : ClassPart). x.atom) here) c.class_fault.ensures.told).0

pub returns-clause-told : goal.returns-clause-told
returns-clause-told g c = grind (arith, common_steps, get_or_default, told_of_class)
