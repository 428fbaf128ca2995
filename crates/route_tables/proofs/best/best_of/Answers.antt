use Rattle.std.proofs.Common.{List, subst}
use Rattle.std.proofs.lemmas.List.{take_all}
use Rattle.walk_core.specs.declared.offers.Offer.{Offer}
use Rattle.route_tables.specs.steps.BestSoFar.{IsBestSoFar}
use Rattle.route_tables.proofs.BestSteps.{best_step}
use Rattle.route_tables.proofs.best.best_of.Goals as goal

pub loop-offer-preserved : goal.loop-offer-preserved
loop-offer-preserved c =
    best_step c.args.walks.now c.args.offers.now c.loop-offer.offer-index _ c.loop-offer.best c.better-best.result c.total.result c.loop-offer-test.true
    c.total.ensures c.better-best.ensures c.loop-offer.invariant

pub returns : goal.returns
returns c =
    subst (λ (l : List Offer). IsBestSoFar c.args.walks.now l c.loop-offer.best) (take_all c.loop-offer.offer-index c.args.offers.now c.loop-offer-test.false)
    c.loop-offer.invariant
