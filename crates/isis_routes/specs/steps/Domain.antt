-- What is known of an IS-IS domain before any prefix.
use Rattle.std.specs.Prelude.{ℕ, List}
use Rattle.net_model.specs.Network.{Network}
use Rattle.net_model.specs.Refusals.{IsNetwork}
use Rattle.walk_core.specs.declared.offers.Offer.{Offer}
use Rattle.igp_theory.specs.Isis.{Leaks, OffersDefault}
use Rattle.route_tables.specs.Lists.{Exactly}
use Rattle.isis_routes.specs.steps.Offered.{HoldsOffers}
use Rattle.isis_routes.specs.steps.Routing.{AreLevelWalks, RunsBothLevels}
use Rattle.isis_routes.specs.declared.level_walks.LevelWalks.{LevelWalks}

-- a network, and its least walks in both levels
pub record IsisDomain : Type 0 where
  pub net : Network
  pub walks : LevelWalks

-- the routers that run both levels, those that leak, and the attached ones
pub record RouterLists : Type 0 where
  pub both : List ℕ
  pub leaking : List ℕ
  pub attached : List Offer

-- the network is one that `Net::build` takes, and the walks are its least walks
pub record IsKnown (domain : IsisDomain) : Type 0 where
  pub network : IsNetwork domain.net
  pub walks : AreLevelWalks domain.net domain.walks

-- and the lists are those of its routers
pub record IsIsisDomain (domain : IsisDomain) (lists : RouterLists) : Type 0 where
  pub known : IsKnown domain
  pub both : Exactly (RunsBothLevels domain.net) lists.both
  pub leaking : Exactly (Leaks domain.net) lists.leaking
  pub attached : HoldsOffers (OffersDefault domain.net) lists.attached
