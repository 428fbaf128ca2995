use Rattle.std.proofs.Common.{Any, subst}
use Rattle.std.proofs.lemmas.List.{take_all}
use Rattle.net_model.specs.Least.{IsBest, IsBlockAtMost}
use Rattle.net_model.specs.steps.Scans.{OffersDest, pick_block}
use Rattle.net_model.proofs.Bests.{IsBest-more, picks_block}
use Rattle.net_model.proofs.areas.least_dest.Goals as goal

pub loop-interface-preserved : goal.loop-interface-preserved
loop-interface-preserved c =
    IsBest-more IsBlockAtMost pick_block picks_block (OffersDest c.args.others.now) c.args.interfaces.now c.loop-interface.interface-index
    c.interface-item.result c.loop-interface.least c.clashing_dest.result c.first-least.result
    c.loop-interface-test.true c.interface-item.is c.first-least.ensures c.loop-interface.invariant c.clashing_dest.ensures

pub returns : goal.returns
returns c =
    subst (λ l. IsBest IsBlockAtMost (λ a. Any (OffersDest c.args.others.now a) l) c.loop-interface.least)
    (take_all c.loop-interface.interface-index c.args.interfaces.now c.loop-interface-test.false) c.loop-interface.invariant
