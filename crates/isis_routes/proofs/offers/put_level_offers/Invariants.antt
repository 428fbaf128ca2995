use Rattle.std.proofs.Common.{take}
use Rattle.route_tables.specs.Lists.{Adds}
use Rattle.isis_routes.specs.steps.Offered.{OffersIn}
use Rattle.isis_routes.proofs.OfferLists.{GivenBy}
use Rattle.isis_routes.proofs.offers.put_level_offers.Given as goal

abbrev pub invariant-loop-router : goal.invariant-loop-router
invariant-loop-router l =
    Adds l.initial.offers.items l.offers.items (GivenBy (OffersIn l.net l.level l.dest) (take l.router-index l.homes))
