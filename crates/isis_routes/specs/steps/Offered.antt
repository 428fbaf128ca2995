-- What the routers of a level offer of a prefix, and lists of offers.
use Rattle.std.specs.Prelude.{◌≡◌, ◌↔◌, ◌<◌, ◌^◌, ℕ, List, Some, IsTrue}
use Rattle.net_addr.specs.Addresses.{Block}
use Rattle.net_model.specs.Network.{Network}
use Rattle.net_model.specs.declared.interface.Interface.{Interface}
use Rattle.walk_core.specs.Offers.{Offers}
use Rattle.walk_core.specs.BestOffers.{ListsOffer}
use Rattle.walk_core.specs.declared.offers.Offer.{Offer}
use Rattle.igp_theory.specs.Isis.{RunsLevelTwo, OffersLevelOne, OffersLevelTwo, LevelOneCost}
use Rattle.route_tables.specs.Lists.{Adds}
use Rattle.isis_routes.specs.declared.level.Level.{Level}
use Rattle.isis_routes.specs.declared.level.Level.TheVariants.{One, Two}

-- the interface runs the level
abbrev pub RunsLevel : Level → Interface → Type 0
RunsLevel One i = IsTrue i.level1
RunsLevel Two i = IsTrue i.level2

-- the interface's metric in the level
abbrev pub metric_in : Level → Interface → ℕ
metric_in One i = i.metric1
metric_in Two i = i.metric2

-- the interface is up, runs the level and has the subnet p, at this metric
pub record AsksIn (level : Level) (p : Block) (i : Interface) (cost : ℕ) : Type 0 where
  pub up : IsTrue i.up
  pub subnet : i.subnet ≡ Some p
  pub runs : RunsLevel level i
  pub costs : metric_in level i ≡ cost

-- what the routers' own interfaces offer in the level
abbrev pub OffersIn : Network → Level → Block → ℕ → ℕ → Type 0
OffersIn net One p w cost = OffersLevelOne net p w cost
OffersIn net Two p w cost = OffersLevelTwo net p w cost

-- what a router that runs level 2 announces there of its own level 2 subnets
pub record OwnAnnouncement (net : Network) (p : Block) (b cost : ℕ) : Type 0 where
  pub runs : RunsLevelTwo net b
  pub offers : OffersLevelTwo net p b cost

-- what a router that runs level 2 announces there of what it reaches by level 1
pub record LevelOneAnnouncement (net : Network) (p : Block) (b cost : ℕ) : Type 0 where
  pub runs : RunsLevelTwo net b
  pub costs : LevelOneCost net p b cost

-- the list has these offers, and no others
abbrev pub HoldsOffers : Offers → List Offer → Type 0
HoldsOffers offer offers = (at asks : ℕ) → ListsOffer offers at asks ↔ offer at asks

-- none of the offers asks 2^42 or more
abbrev pub AreSmall : List Offer → Type 0
AreSmall offers = (at asks : ℕ) → ListsOffer offers at asks → asks < 2 ^ 42

-- the offer is one of these
abbrev pub IsOfferOf : Offers → Offer → Type 0
IsOfferOf offer o = offer o.at o.asks

-- the offer is router w's, and asks this
pub record IsOffer (w : ℕ) (asked : ℕ → Type 0) (o : Offer) : Type 0 where
  pub at : o.at ≡ w
  pub asks : asked o.asks

-- to a list there come the offers of router w that ask this, and no others
abbrev pub AddsOffers : List Offer → List Offer → ℕ → (ℕ → Type 0) → Type 0
AddsOffers old new w asked = Adds old new (IsOffer w asked)
