use Rattle.route_tables.proofs.ListFacts.{exactly_added}
use Rattle.isis_routes.specs.steps.Offered.{IsOfferOf, OwnAnnouncement}
use Rattle.isis_routes.proofs.HomeFacts.{home_is_router, offered_is_connected}
use Rattle.isis_routes.proofs.OfferLists.{given_more, given_end}
use Rattle.isis_routes.specs.declared.level.Level.TheVariants.{Two}
use Rattle.isis_routes.proofs.announcements.put_own_subnets.Goals as goal

pub push_own_subnets-requires : goal.push_own_subnets-requires
push_own_subnets-requires c =
    home_is_router c.args.net.now c.args.dest c.args.homes.now c.loop-router.router-index c.requires c.loop-router-test.true

pub loop-router-preserved : goal.loop-router-preserved
loop-router-preserved c =
    given_more (OwnAnnouncement c.args.net.now c.args.dest) c.clear.new.self.items c.loop-router.offers.items
    c.push_own_subnets.new.offers.items c.args.homes.now c.loop-router.router-index c.loop-router-test.true
    c.loop-router.invariant c.in_ok-push_own_subnets.ensures

pub returns : goal.returns
returns c =
    let owned = OwnAnnouncement c.args.net.now c.args.dest in
    exactly_added c.clear.new.self.items c.loop-router.offers.items (IsOfferOf owned) c.clear.ensures.items
    (given_end owned c.clear.new.self.items c.loop-router.offers.items c.args.homes.now c.loop-router.router-index
    c.loop-router-test.false (λ b k is. (c.requires b).1 (offered_is_connected c.args.net.now Two c.args.dest b k is.offers))
    c.loop-router.invariant)
