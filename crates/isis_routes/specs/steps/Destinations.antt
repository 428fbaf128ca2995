-- What is known of each prefix before the tables are made.
use Rattle.std.specs.Prelude.{List, map, All, Contains}
use Rattle.net_addr.specs.Addresses.{Block}
use Rattle.net_model.specs.Network.{Network}
use Rattle.igp_theory.specs.Isis.{OffersLevelOne, LevelTwoAnnouncement, DownAnnouncement}
use Rattle.route_tables.specs.Prefixes.{AreDistinctPrefixes}
use Rattle.isis_routes.specs.steps.Candidates.{IsIsisCandidate}
use Rattle.isis_routes.specs.steps.Homes.{AreRoutersAt}
use Rattle.isis_routes.specs.steps.Offered.{HoldsOffers}
use Rattle.isis_routes.specs.declared.destinations.Destination.{Destination}
use Rattle.isis_routes.specs.declared.level_one.LevelOne.{LevelOne}

-- a prefix has the routers at which it is connected, and what level 1 offers of it
pub record IsLevelOne (net : Network) (one : LevelOne) : Type 0 where
  pub homes : AreRoutersAt net one.dest one.homes.items
  pub offers : HoldsOffers (OffersLevelOne net one.dest) one.offers.items

-- a destination has that of its prefix, and what is announced of it into level 2 and, marked down, into level 1
pub record HasAnnouncements (net : Network) (d : Destination) : Type 0 where
  pub one : IsLevelOne net d.one
  pub two : HoldsOffers (LevelTwoAnnouncement net d.one.dest) d.two.items
  pub down : HoldsOffers (DownAnnouncement net d.one.dest) d.down.items

-- the prefixes of destinations
abbrev pub isis_prefixes : List Destination → List Block
isis_prefixes destinations = map (λ (d : Destination). d.one.dest) destinations

-- the destinations are distinct prefixes, each with what is known of it, and each candidate is one
pub record AreIsisDestinations (net : Network) (destinations : List Destination) : Type 0 where
  pub announced : All (HasAnnouncements net) destinations
  pub distinct : AreDistinctPrefixes (isis_prefixes destinations)
  pub every : (p : Block) → IsIsisCandidate net p → Contains (isis_prefixes destinations) p
