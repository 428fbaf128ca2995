use Rattle.std.proofs.Common.{take}
use Rattle.igp_theory.specs.Isis.{OffersDefault}
use Rattle.route_tables.specs.Lists.{Adds}
use Rattle.isis_routes.proofs.OfferLists.{GivenBy}
use Rattle.isis_routes.proofs.attached.attached_routers.Given as goal

abbrev pub invariant-loop-router : goal.invariant-loop-router
invariant-loop-router l = Adds l.initial.offers.items l.offers.items (GivenBy (OffersDefault l.net) (take l.router-index l.both))
