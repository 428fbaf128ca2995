-- Prefixes that have the same entries at every router.
use Rattle.std.specs.Prelude.{◌≡◌, ◌<◌, ◌↔◌, ℕ, List, length, Option, None, Some, slice_index_or, Contains}
use Rattle.net_addr.specs.Addresses.{Block}
use Rattle.net_model.specs.Network.{Network}
use Rattle.igp_theory.specs.Ospf.{OspfEntry}
use Rattle.route_tables.specs.AlikeOffers.{AreAlikeOffers}
use Rattle.route_tables.specs.Entries.{AreAlikePrefixes}
use Rattle.route_tables.specs.Prefixes.{prefix_at}
use Rattle.ospf_routes.specs.declared.intra_area.AreaOffers.{AreaOffers}
use Rattle.ospf_routes.specs.declared.intra_area.Destination.{Destination}
use Rattle.ospf_routes.specs.steps.OfferLists.{HeardLists, heard_into}

-- the prefix at one place is earlier than that at another, and both are alike in this sense
abbrev pub IsEarlierBy : (Block → Block → Type 0) → List Block → ℕ → ℕ → Type 0
IsEarlierBy alike dests place earlier = (earlier < place) × alike (prefix_at dests earlier) (prefix_at dests place)

-- where an earlier prefix is named for one of the first n, both are alike in this sense
pub record AreEarlierBy (alike : Block → Block → Type 0) (dests : List Block) (n : ℕ) (named : List (Option ℕ)) : Type 0 where
  pub count : length named ≡ n
  pub each : (place earlier : ℕ) → slice_index_or named place None ≡ Some earlier → IsEarlierBy alike dests place earlier

-- both have the same entries at every router
abbrev pub AreTwins : Network → List Block → List (Option ℕ) → Type 0
AreTwins net dests = AreEarlierBy (AreAlikePrefixes (length net) (OspfEntry net)) dests (length dests)

-- the places that are known are below n
abbrev pub AreKnownBelow : ℕ → List (Option ℕ) → Type 0
AreKnownBelow n known = (u place : ℕ) → slice_index_or known u None ≡ Some place → place < n

-- two parts are of one area, and their offers are alike
pub record IsTwinPart (one other : AreaOffers) : Type 0 where
  pub area : one.area ≡ other.area
  pub offers : AreAlikeOffers one.offers.items other.offers.items

-- the parts are, place by place
pub record AreTwinParts (one other : List AreaOffers) : Type 0 where
  pub count : length one ≡ length other
  pub each : (k : ℕ) (d : AreaOffers) → k < length one → IsTwinPart (slice_index_or one k d) (slice_index_or other k d)

-- what is announced of the prefixes at two places into each area is alike
abbrev pub AreTwinSummaries : HeardLists → ℕ → ℕ → Type 0
AreTwinSummaries heard one other = (zone : ℕ) → zone < heard.areas → AreAlikeOffers (heard_into heard one zone) (heard_into heard other zone)

-- two destinations are connected at the same routers, neither is among the prefixes of active ranges, and their parts are alike
pub record AreTwinDestinations (ranged : List Block) (d e : Destination) : Type 0 where
  pub homes : (u : ℕ) → Contains d.homes.items u ↔ Contains e.homes.items u
  pub parts : AreTwinParts d.parts.items e.parts.items
  pub no_range : Contains ranged d.dest → ⊥
  pub other_no_range : Contains ranged e.dest → ⊥

-- destinations, what is announced of them, and the prefixes of active ranges
pub record TwinGrounds : Type 0 where
  pub destinations : List Destination
  pub heard : HeardLists
  pub ranged : List Block

-- the destinations at two places are twins, and what is announced of them is alike
pub record AreTwinsAt (by : TwinGrounds) (one other : ℕ) : Type 0 where
  pub d : Destination
  pub e : Destination
  pub d_at : d ≡ slice_index_or by.destinations one d
  pub e_at : e ≡ slice_index_or by.destinations other e
  pub twins : AreTwinDestinations by.ranged d e
  pub announced : AreTwinSummaries by.heard one other
