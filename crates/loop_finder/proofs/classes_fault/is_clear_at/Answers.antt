use Rattle.std.proofs.lemmas.Grind.{common_steps}
use Rattle.std.proofs.Common.{◌≡◌, arith, sym, ◌∙◌, subst}
use Rattle.std.proofs.lemmas.List.{get_or_default}
use Rattle.std.specs.Bool.{OnTrue}
use Rattle.loop_finder.specs.Mixes.{Mix, mix_of}
use Rattle.loop_finder.specs.Parts.{ClassPart, IsPart}
use Rattle.loop_finder.specs.Subjects.{no_part, class_part_at}
use Rattle.loop_finder.specs.steps.Verdicts.{IsClearAt}
use Rattle.loop_finder.proofs.OnFalse.{on_true_two}
use Rattle.loop_finder.proofs.PartLaws.{clear_part}
use Rattle.loop_finder.proofs.classes_fault.is_clear_at.Goals as goal

pub returns-in-Some-clause-clear : goal.returns-in-Some-clause-clear
returns-in-Some-clause-clear g c = grind (arith, common_steps, get_or_default, on_true_two)

pub returns-in-None-clause-clear : goal.returns-in-None-clause-clear
returns-in-None-clause-clear g c =
    let here : c.index-part.result.now ≡ class_part_at c.args.subject.now.parts.items c.args.place =
    c.index-part.ensures ∙ get_or_default c.args.subject.now.parts.items c.args.place c.index-part.result.now no_part c.requires.place in
    let m : Mix = mix_of g.O.RouteSource.table g.N.RouteSource.table c.args.subject.now.mixed.now in
    subst (λ (part : ClassPart). OnTrue c.is_clear.result (IsClearAt m c.args.span.now.first.now c.args.span.now.last.now part.atom)) here
    (on_true_two c.is_clear.result c.is_clear.ensures.moves c.is_clear.ensures.never
    (clear_part m c.index-part.result.now c.args.span.now.first.now c.args.span.now.last.now
    (subst (λ (part : ClassPart). IsPart m part) (sym here) (c.requires.subject.parts_are.each c.args.place no_part c.requires.place))))
