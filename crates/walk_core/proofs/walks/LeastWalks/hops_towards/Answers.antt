use Rattle.std.proofs.Common.{arith}
use Rattle.std.proofs.lemmas.Grind.{common_steps}
use Rattle.std.proofs.Common.{ℕ, [], get_or}
use Rattle.std.proofs.lemmas.List.{get_or_default}
use Rattle.walk_core.specs.declared.offers.Offer.{Offer}
use Rattle.walk_core.proofs.AddingLaws.{leads_nowhere, leads_more, leads_all}
use Rattle.walk_core.proofs.OfferLaws.{IsHopBelow, hops_in_order}
use Rattle.walk_core.proofs.walks.LeastWalks.hops_towards.Goals as goal

pub loop-offer-init : goal.loop-offer-init
loop-offer-init c = grind (arith, common_steps, leads_nowhere)

pub loop-offer-preserved : goal.loop-offer-preserved
loop-offer-preserved c =
    let none : Offer = record { at = 0; asks = 0 } in
    let i : ℕ = c.loop-offer.offer-index in
    let offer : Offer = get_or c.args.offers.now i none in
    leads_more (IsHopBelow c.args.self.now c.args.cost c.args.count) c.args.offers.now i offer [] c.loop-offer.hops.items c.push_hops.new.hops.items
    c.loop-offer-test.true (get_or_default c.args.offers.now i offer none c.loop-offer-test.true) c.loop-offer.invariant c.in_ok-push_hops.ensures

pub returns : goal.returns
returns c =
    hops_in_order c.args.self.now c.args.offers.now c.args.cost c.args.count c.loop-offer.hops.items c.put_in_order.new.numbers.items
    (leads_all (IsHopBelow c.args.self.now c.args.cost c.args.count) c.args.offers.now c.loop-offer.offer-index [] c.loop-offer.hops.items
    c.loop-offer-test.false c.loop-offer.invariant) c.put_in_order.ensures.ascending c.put_in_order.ensures.kept
