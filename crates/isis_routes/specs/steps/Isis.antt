-- IS-IS on a network.
use Rattle.std.specs.Prelude.{ℕ, List, Option}
use Rattle.isis_routes.specs.steps.Alike.{AreEarlierAlike}
use Rattle.isis_routes.specs.steps.Destinations.{AreIsisDestinations}
use Rattle.isis_routes.specs.steps.Domain.{IsisDomain, IsKnown}
use Rattle.isis_routes.specs.declared.destinations.Destination.{Destination}

-- a network with its least walks in both levels, and what is known of each prefix
pub record IsisNetwork : Type 0 where
  pub domain : IsisDomain
  pub destinations : List Destination

-- what is known is that of the network, and of each prefix an earlier one has the same routes where one is named
pub record IsIsis (isis : IsisNetwork) (earlier : List (Option ℕ)) : Type 0 where
  pub domain : IsKnown isis.domain
  pub known : AreIsisDestinations isis.domain.net isis.destinations
  pub alike : AreEarlierAlike isis.destinations earlier
