-- Prefixes of one area that are announced alike.
use Rattle.std.specs.Prelude.{◌≡◌, ◌≢◌, ◌+◌, ◌<◌, ◌++◌, ◌∷◌, ℕ, List, [], length, All, Contains}
use Rattle.net_addr.specs.Addresses.{Block, default_prefix}
use Rattle.net_model.specs.Network.{Network}
use Rattle.walk_core.specs.Offers.{Offers}
use Rattle.walk_core.specs.declared.offers.Offer.{Offer}
use Rattle.igp_theory.specs.Ospf.{BackboneSummary, IntraAreaCost, IsActiveRange}
use Rattle.route_tables.specs.AlikeOffers.{AreAlikeOffers}
use Rattle.route_tables.specs.Prefixes.{prefix_at}
use Rattle.ospf_routes.specs.steps.Destinations.{HasAreaPart}
use Rattle.ospf_routes.specs.steps.Offered.{AreOffers}
use Rattle.ospf_routes.specs.declared.intra_area.Destination.{Destination}
use Rattle.ospf_routes.specs.declared.siblings.Sibling.{Sibling}

-- of each offer of one kind there is one of the other at the same vertex, which asks the same but for two constants
abbrev pub ShiftsInto : ℕ → ℕ → Offers → Offers → Type 0
ShiftsInto x y one other = (at asks : ℕ) → one at asks → (c : ℕ) × other at c × (asks + x ≡ c + y)

-- and so back
pub record AskShifted (x y : ℕ) (one other : Offers) : Type 0 where
  pub there : ShiftsInto x y one other
  pub back : ShiftsInto y x other one

-- the destination is offered in area n alone, which isn't the backbone
pub record HasOneArea (d : Destination) (n : ℕ) : Type 0 where
  pub one : length d.parts.items ≡ 1
  pub has : HasAreaPart d.parts.items n
  pub other : n ≢ 0

-- p isn't the prefix of all addresses, it has intra-area costs in area n alone, which isn't the backbone, and no router has an
-- active range
pub record IsOfOneArea (net : Network) (p : Block) (n : ℕ) : Type 0 where
  pub apart : p ≢ default_prefix
  pub other : n ≢ 0
  pub only : (m u cost : ℕ) → IntraAreaCost net m p u cost → m ≡ n
  pub no_range : (q : Block) (u : ℕ) → IsActiveRange net q u → ⊥

-- p and q are of one area, and what is announced of them into the backbone differs by constants alone
pub record AreSiblings (net : Network) (x y : ℕ) (p q : Block) : Type 0 where
  pub area : ℕ
  pub one : IsOfOneArea net p area
  pub other : IsOfOneArea net q area
  pub shift : AskShifted x y (BackboneSummary net p) (BackboneSummary net q)

-- the prefix at an earlier place is a sibling of that at a place
pub record IsEarlierSibling (net : Network) (dests : List Block) (place earlier : ℕ) : Type 0 where
  pub before : earlier < place
  pub x : ℕ
  pub y : ℕ
  pub are : AreSiblings net x y (prefix_at dests earlier) (prefix_at dests place)

-- the prefix of a known sibling is before place k, of its area, and announced so into the backbone
pub record IsKnownSibling (net : Network) (dests : List Block) (k : ℕ) (s : Sibling) : Type 0 where
  pub before : s.place < k
  pub is : IsOfOneArea net (prefix_at dests s.place) s.area
  pub backbone : AreOffers (BackboneSummary net (prefix_at dests s.place)) s.backbone.items

-- and so of all that are known
abbrev pub AreKnownSiblings : Network → List Block → ℕ → List Sibling → Type 0
AreKnownSiblings net dests k known = All (IsKnownSibling net dests k) known

-- one of these is at this place, of area n and announced into the backbone like these offers
pub record IsAlikeSibling (known : List Sibling) (n : ℕ) (offers : List Offer) (place : ℕ) : Type 0 where
  pub sibling : Sibling
  pub among : Contains known sibling
  pub place_is : sibling.place ≡ place
  pub area : sibling.area ≡ n
  pub alike : AreAlikeOffers sibling.backbone.items offers

-- behind those that are known comes one at this place, of area n and with these offers
pub record AddsSibling (place n : ℕ) (offers : List Offer) (old new : List Sibling) : Type 0 where
  pub sibling : Sibling
  pub behind : new ≡ old ++ sibling ∷ []
  pub place_is : sibling.place ≡ place
  pub area : sibling.area ≡ n
  pub backbone : sibling.backbone.items ≡ offers
