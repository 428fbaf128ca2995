use Rattle.std.proofs.Common.{◌≤◌, min, subst}
use Rattle.std.proofs.lemmas.List.{take_all}
use Rattle.net_model.specs.steps.BestLinks.{BestLink, OffersCost}
use Rattle.net_model.proofs.Bests.{IsBest-more, picks_lower}
use Rattle.net_model.proofs.links.best_link.Goals as goal

pub loop-near-preserved : goal.loop-near-preserved
loop-near-preserved c =
    IsBest-more (λ a b. a ≤ b) min picks_lower (OffersCost c.args.zone c.args.fars.now) c.args.nears.now c.loop-near.near-index c.near-item.result
    c.loop-near.best c.link_cost.result c.lower-best.result c.loop-near-test.true c.near-item.is c.lower-best.ensures c.loop-near.invariant
    c.link_cost.ensures

pub returns : goal.returns
returns c = subst (λ l. BestLink c.args.zone l c.args.fars.now c.loop-near.best) (take_all c.loop-near.near-index c.args.nears.now c.loop-near-test.false)
    c.loop-near.invariant
