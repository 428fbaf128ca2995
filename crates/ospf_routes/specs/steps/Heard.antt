-- What is announced of each prefix into each area.
use Rattle.std.specs.Prelude.{◌≡◌, ◌≢◌, ◌<◌, ◌*◌, ◌++◌, ℕ, List, [], length, slice_index_or, IsTrue}
use Rattle.net_addr.specs.Addresses.{Block, default_prefix}
use Rattle.route_tables.specs.Prefixes.{prefix_at}
use Rattle.net_model.specs.Network.{Network}
use Rattle.walk_core.specs.declared.offers.Offer.{Offer}
use Rattle.igp_theory.specs.Ospf.{BackboneSummary, IsActiveRange}
use Rattle.ospf_routes.specs.steps.Areas.{IsAreaAt}
use Rattle.ospf_routes.specs.steps.Destinations.{IsDestinationIn, ospf_prefixes}
use Rattle.ospf_routes.specs.steps.Domain.{OspfDomain}
use Rattle.ospf_routes.specs.steps.Offered.{AreOffers}
use Rattle.ospf_routes.specs.steps.OfferLists.{HeardLists, heard_into}
use Rattle.ospf_routes.specs.steps.Siblings.{AskShifted}
use Rattle.ospf_routes.specs.steps.Summarized.{AreSummarized, IsHeard}
use Rattle.ospf_routes.specs.declared.intra_area.Destination.{Destination}
use Rattle.ospf_routes.specs.declared.area_boundary.Leaving.{Leaving}

-- these are the offers of a prefix of which the same is announced into area n as of p but for constants
pub record AreHeardLike (net : Network) (p : Block) (n : ℕ) (offers : List Offer) : Type 0 where
  pub of : Block
  pub x : ℕ
  pub y : ℕ
  pub shift : AskShifted x y (IsHeard net of n) (IsHeard net p n)
  pub offers_are : AreOffers (IsHeard net of n) offers

-- the offers are announced into the area at this place as p is, but for constants
abbrev pub AreHeardAt : OspfDomain → Block → ℕ → List Offer → Type 0
AreHeardAt domain p zone offers = (n : ℕ) → IsAreaAt domain.areas n zone → AreHeardLike domain.net p n offers

-- these are the lists of what is announced of p into each of the first m areas
pub record IsSummaryRow (domain : OspfDomain) (p : Block) (m : ℕ) (row : List (List Offer)) : Type 0 where
  pub count : length row ≡ m
  pub each : (zone : ℕ) → zone < m → AreHeardAt domain p zone (slice_index_or row zone [])

-- these are the lists of the prefix at a place into the first m areas
pub record IsRowAgain (heard : HeardLists) (place m : ℕ) (row : List (List Offer)) : Type 0 where
  pub count : length row ≡ m
  pub each : (zone : ℕ) → zone < m → slice_index_or row zone [] ≡ heard_into heard place zone

-- behind some lists there come those of a row of which this holds
pub record AddsRow (Is : List (List Offer) → Type 0) (old new : HeardLists) : Type 0 where
  pub row : List (List Offer)
  pub behind : new ≡ record { areas = old.areas; lists = old.lists ++ row }
  pub is : Is row

-- these are what is announced of each of the first k prefixes into each area
pub record AreHeardBelow (domain : OspfDomain) (dests : List Block) (k : ℕ) (heard : HeardLists) : Type 0 where
  pub areas_are : heard.areas ≡ length domain.areas
  pub count : length heard.lists ≡ k * heard.areas
  pub each : (place zone : ℕ) → place < k → zone < heard.areas → AreHeardAt domain (prefix_at dests place) zone (heard_into heard place zone)

-- and of all prefixes
abbrev pub AreSummaries : OspfDomain → List Destination → HeardLists → Type 0
AreSummaries domain ds = AreHeardBelow domain (ospf_prefixes ds) (length ds)

-- the routes are what border routers summarize of the prefix, and the offers what of it is announced into the backbone; and it is
-- told where it is an active range
pub record IsLeaving (domain : OspfDomain) (leaving : Leaving) : Type 0 where
  pub destination : IsDestinationIn domain leaving.destination.now
  pub routes : AreSummarized domain.net leaving.destination.now.dest leaving.routes.now
  pub backbone : AreOffers (BackboneSummary domain.net leaving.destination.now.dest) leaving.backbone.now
  pub ranged : (u : ℕ) → IsActiveRange domain.net leaving.destination.now.dest u → IsTrue leaving.is_ranged

-- there are none of either, and the prefix isn't that of all addresses
pub record IsQuiet (leaving : Leaving) : Type 0 where
  pub no_routes : length leaving.routes.now ≡ 0
  pub no_backbone : length leaving.backbone.now ≡ 0
  pub apart : leaving.destination.now.dest ≢ default_prefix
