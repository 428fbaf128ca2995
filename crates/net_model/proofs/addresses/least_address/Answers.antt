use Rattle.std.proofs.Common.{◌≤◌, Any, min, subst}
use Rattle.std.proofs.lemmas.List.{take_all}
use Rattle.net_model.specs.Least.{IsBest}
use Rattle.net_model.specs.steps.Scans.{OffersAddress}
use Rattle.net_model.proofs.Bests.{IsBest-more, picks_lower}
use Rattle.net_model.proofs.addresses.least_address.Goals as goal

pub loop-interface-preserved : goal.loop-interface-preserved
loop-interface-preserved c =
    IsBest-more (λ a b. a ≤ b) min picks_lower (OffersAddress c.args.same c.args.others.now) c.args.interfaces.now c.loop-interface.interface-index
    c.interface-item.result c.loop-interface.least c.clashing_address.result c.lower-least.result
    c.loop-interface-test.true c.interface-item.is c.lower-least.ensures c.loop-interface.invariant c.clashing_address.ensures

pub returns : goal.returns
returns c =
    subst (λ l. IsBest (λ a b. a ≤ b) (λ a. Any (OffersAddress c.args.same c.args.others.now a) l) c.loop-interface.least)
    (take_all c.loop-interface.interface-index c.args.interfaces.now c.loop-interface-test.false) c.loop-interface.invariant
