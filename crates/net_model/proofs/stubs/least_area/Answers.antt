use Rattle.std.proofs.Common.{◌≤◌, List, Any, min, ap, subst, ◌∙◌}
use Rattle.std.proofs.lemmas.List.{take_all}
use Rattle.net_model.specs.Configuration.{Configuration}
use Rattle.net_model.specs.Least.{IsBest}
use Rattle.net_model.specs.steps.Scans.{OffersArea}
use Rattle.net_model.specs.declared.interface.Interface.{Interface}
use Rattle.net_model.proofs.Bests.{IsBest-more, picks_lower}
use Rattle.net_model.proofs.stubs.least_area.Goals as goal

pub loop-interface-preserved : goal.loop-interface-preserved
loop-interface-preserved c =
    IsBest-more (λ a b. a ≤ b) min picks_lower (OffersArea c.args.one.now c.args.two.now) c.as_slice-interface-items.result.now
    c.loop-interface.interface-index c.interface-item.result c.loop-interface.least c.clashing_area.result c.lower-least.result
    c.loop-interface-test.true c.interface-item.is c.lower-least.ensures c.loop-interface.invariant c.clashing_area.ensures

pub returns : goal.returns
returns c =
    let items = c.as_slice-interface-items.result.now in
    let is = take_all c.loop-interface.interface-index items c.loop-interface-test.false ∙ c.as_slice-interface-items.ensures
    ∙ ap (λ (x : Configuration). x.interfaces) c.one.view_is in
    subst (λ (l : List Interface). IsBest (λ a b. a ≤ b) (λ a. Any (OffersArea c.args.one.now c.args.two.now a) l) c.loop-interface.least) is
    c.loop-interface.invariant
