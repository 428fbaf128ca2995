use Rattle.std.proofs.Common.{take}
use Rattle.igp_theory.specs.Isis.{DownAnnouncement}
use Rattle.route_tables.specs.Lists.{Adds}
use Rattle.isis_routes.proofs.OfferLists.{GivenBy}
use Rattle.isis_routes.proofs.leaked.put_down_announcements.Given as goal

abbrev pub invariant-loop-router : goal.invariant-loop-router
invariant-loop-router l =
    Adds l.initial.offers.items l.offers.items
    (GivenBy (DownAnnouncement l.domain.net l.one.dest) (take l.router-index l.leaking))
