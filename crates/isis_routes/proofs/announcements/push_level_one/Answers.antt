use Rattle.std.proofs.Common.{get_or}
use Rattle.isis_routes.specs.steps.Offered.{LevelOneAnnouncement}
use Rattle.isis_routes.proofs.Announced.{level_one_added, listed_runs, runs_within}
use Rattle.isis_routes.proofs.OfferLists.{given_more, given_end}
use Rattle.isis_routes.proofs.announcements.push_level_one.Goals as goal

pub cost-requires-clause-router : goal.cost-requires-clause-router
cost-requires-clause-router c =
    runs_within c.args.domain.now.net (get_or c.args.routers.now c.loop-router.router-index 0)
    (listed_runs c.args.domain.now.net c.args.routers.now c.loop-router.router-index c.requires.routers.both c.loop-router-test.true)

pub loop-router-preserved : goal.loop-router-preserved
loop-router-preserved c =
    let net = c.args.domain.now.net in
    let p = c.args.one.now.dest in
    let i = c.loop-router.router-index in
    given_more (LevelOneAnnouncement net p) c.args.offers.now.items c.loop-router.offers.items c.push_cost.new.offers.items c.args.routers.now i
    c.loop-router-test.true c.loop-router.invariant
    (level_one_added net p (get_or c.args.routers.now i 0) c.loop-router.offers.items c.push_cost.new.offers.items c.cost.result
    (listed_runs net c.args.routers.now i c.requires.routers.both c.loop-router-test.true) c.in_ok-push_cost.ensures c.cost.ensures)

pub returns : goal.returns
returns c =
    let net = c.args.domain.now.net in
    let p = c.args.one.now.dest in
    given_end (LevelOneAnnouncement net p) c.args.offers.now.items c.loop-router.offers.items c.args.routers.now c.loop-router.router-index
    c.loop-router-test.false c.requires.routers.every c.loop-router.invariant
