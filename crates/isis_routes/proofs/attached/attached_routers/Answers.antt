use Rattle.std.proofs.Common.{◌≡◌, ℕ, Some, get_or}
use Rattle.igp_theory.specs.Isis.{OffersDefault}
use Rattle.isis_routes.proofs.AreaFacts.{attached_both}
use Rattle.isis_routes.proofs.OfferLists.{given_more, holds_given, offers_same}
use Rattle.isis_routes.proofs.attached.attached_routers.Goals as goal

pub loop-router-preserved : goal.loop-router-preserved
loop-router-preserved c =
    let u : ℕ = get_or c.args.both.now c.loop-router.router-index 0 in
    given_more (OffersDefault c.args.net.now) c.new-offers.result.items c.loop-router.offers.items c.push_cost.new.offers.items c.args.both.now
    c.loop-router.router-index c.loop-router-test.true c.loop-router.invariant
    (offers_same c.loop-router.offers.items c.push_cost.new.offers.items u (λ k. c.default_cost.result ≡ Some k) (OffersDefault c.args.net.now u)
    c.in_ok-push_cost.ensures c.default_cost.ensures)

pub returns : goal.returns
returns c =
    holds_given (OffersDefault c.args.net.now) c.new-offers.result.items c.loop-router.offers.items c.args.both.now c.loop-router.router-index
    c.new-offers.ensures.items c.loop-router-test.false (attached_both c.args.net.now c.args.both.now c.requires.both) c.loop-router.invariant
