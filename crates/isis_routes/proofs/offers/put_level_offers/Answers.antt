use Rattle.isis_routes.specs.steps.Offered.{OffersIn}
use Rattle.isis_routes.proofs.HomeFacts.{home_is_router, offered_is_connected}
use Rattle.isis_routes.proofs.OfferLists.{given_more, holds_given}
use Rattle.isis_routes.proofs.offers.put_level_offers.Goals as goal

pub push_router_offers-requires : goal.push_router_offers-requires
push_router_offers-requires c =
    home_is_router c.args.net.now c.args.dest c.args.homes.now c.loop-router.router-index c.requires c.loop-router-test.true

pub loop-router-preserved : goal.loop-router-preserved
loop-router-preserved c =
    given_more (OffersIn c.args.net.now c.args.level c.args.dest) c.clear.new.self.items c.loop-router.offers.items
    c.push_router_offers.new.offers.items c.args.homes.now c.loop-router.router-index c.loop-router-test.true
    c.loop-router.invariant c.in_ok-push_router_offers.ensures

pub returns : goal.returns
returns c =
    holds_given (OffersIn c.args.net.now c.args.level c.args.dest) c.clear.new.self.items c.loop-router.offers.items
    c.args.homes.now c.loop-router.router-index c.clear.ensures.items c.loop-router-test.false
    (λ b k offers. (c.requires b).1 (offered_is_connected c.args.net.now c.args.level c.args.dest b k offers))
    c.loop-router.invariant
