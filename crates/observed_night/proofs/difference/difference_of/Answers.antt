use Rattle.std.proofs.Common.{◌∙◌, ap, sym}
use Rattle.std.specs.declared.cmp.Ordering.TheVariants.{Less, Equal, Greater}
use Rattle.net_model.proofs.Names.{same_name}
use Rattle.net_model.specs.Configuration.{Configuration}
use Rattle.observed_night.specs.steps.Sights as sight
use Rattle.observed_night.proofs.SightFacts.{compared_as, greater_told, lesser_told}
use Rattle.observed_night.proofs.difference.difference_of.Goals as goal

pub returns-in-Less : goal.returns-in-Less
returns-in-Less c =
    lesser_told c.args.one.now c.args.its.now c.stands_alone.result.name.now c.stands_alone.result.part c.stands_alone.ensures.name
    c.stands_alone.ensures.part
    (compared_as c.as_slice.result.now c.as_slice-2.result.now c.args.one.now.name c.args.its.now.name Less
    (c.as_slice.ensures ∙ ap (λ (x : Configuration). x.name) c.one.view_is)
    (c.as_slice-2.ensures ∙ ap (λ (x : Configuration). x.name) c.its.view_is) (sym c.in-Less.ensures))

pub returns-in-Greater : goal.returns-in-Greater
returns-in-Greater c =
    greater_told c.args.one.now c.args.its.now c.stands_alone-in-Greater.result.name.now c.stands_alone-in-Greater.result.part
    c.stands_alone-in-Greater.ensures.name c.stands_alone-in-Greater.ensures.part
    (compared_as c.as_slice.result.now c.as_slice-2.result.now c.args.one.now.name c.args.its.now.name Greater
    (c.as_slice.ensures ∙ ap (λ (x : Configuration). x.name) c.one.view_is)
    (c.as_slice-2.ensures ∙ ap (λ (x : Configuration). x.name) c.its.view_is) (sym c.in-Greater.ensures))

pub returns-in_ok-part-in-Equal : goal.returns-in_ok-part-in-Equal
returns-in_ok-part-in-Equal c =
    let equal = compared_as c.as_slice.result.now c.as_slice-2.result.now c.args.one.now.name c.args.its.now.name Equal
    (c.as_slice.ensures ∙ ap (λ (x : Configuration). x.name) c.one.view_is)
    (c.as_slice-2.ensures ∙ ap (λ (x : Configuration). x.name) c.its.view_is) (sym c.in-Equal.ensures) in
    sight.part_of c.in_ok-part-in-Equal.part (c.as_slice-in-Equal.ensures ∙ ap (λ (x : Configuration). x.name) c.one.view_is)
    (same_name c.args.one.now.name c.args.its.now.name equal) c.in_ok-part-in-Equal.ensures
