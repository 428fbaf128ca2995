use Rattle.std.proofs.Common.{take}
use Rattle.route_tables.specs.Lists.{Adds}
use Rattle.isis_routes.specs.steps.Offered.{LevelOneAnnouncement}
use Rattle.isis_routes.proofs.OfferLists.{GivenBy}
use Rattle.isis_routes.proofs.announcements.push_level_one.Given as goal

abbrev pub invariant-loop-router : goal.invariant-loop-router
invariant-loop-router l =
    Adds l.initial.offers.items l.offers.items (GivenBy (LevelOneAnnouncement l.domain.net l.one.dest) (take l.router-index l.routers))
