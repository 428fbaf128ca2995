use Rattle.std.proofs.Common.{get_or}
use Rattle.std.proofs.lemmas.List.{get_or_default}
use Rattle.walk_core.specs.BestOffers.{total_towards}
use Rattle.walk_core.specs.declared.offers.Offer.{Offer}
use Rattle.walk_core.proofs.CheapestLaws.{cheapest_step, cheapest_end}
use Rattle.walk_core.proofs.OfferLaws.{best_of_cheapest}
use Rattle.walk_core.proofs.walks.LeastWalks.best_cost.Goals as goal

pub loop-offer-preserved : goal.loop-offer-preserved
loop-offer-preserved c =
    let none : Offer = record { at = 0; asks = 0 } in
    let i = c.loop-offer.offer-index in
    let offer : Offer = get_or c.args.offers.now i none in
    cheapest_step (total_towards c.args.self.now) c.args.offers.now i offer c.loop-offer.best c.total.result c.least_of-best.result c.loop-offer-test.true
    (get_or_default c.args.offers.now i offer none c.loop-offer-test.true) c.total.ensures c.least_of-best.ensures c.loop-offer.invariant

pub returns : goal.returns
returns c = best_of_cheapest c.args.self.now c.args.offers.now c.loop-offer.best
    (cheapest_end (total_towards c.args.self.now) c.args.offers.now c.loop-offer.offer-index c.loop-offer.best c.loop-offer-test.false c.loop-offer.invariant)
