use Rattle.std.proofs.Common.{sym, subst, ◌∙◌}
use Rattle.std.proofs.lemmas.Option.{same_Some}
use Rattle.net_model.specs.steps.Scans.{ClashOnStub}
use Rattle.net_model.proofs.stubs.clashing_area.Goals as goal

pub returns-in_default : goal.returns-in_default
returns-in_default c = λ area h.
    let same = same_Some c.in-Some.area area (sym c.in-Some.is ∙ h.0.area_is) in
    let clash = c.clash.ensures.1 (subst (λ a. ClashOnStub a c.args.one.now c.args.two.now) (sym same) h.1) in
    let no_clash = c.if-clash.false in
    cc
