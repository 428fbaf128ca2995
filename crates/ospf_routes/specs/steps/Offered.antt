-- Routes of a prefix in areas, and the offers that they are.
use Rattle.std.specs.Prelude.{◌≡◌, ◌≢◌, ◌↔◌, ℕ, List, Option, Some}
use Rattle.walk_core.specs.Offers.{Offers}
use Rattle.walk_core.specs.declared.offers.Offer.{Offer}
use Rattle.ospf_routes.specs.Lists.{Exactly}
use Rattle.ospf_routes.specs.declared.area_route.AreaRoute.{AreaRoute}

-- the list has these offers, and no others
abbrev pub AreOffers : Offers → List Offer → Type 0
AreOffers offer offers = Exactly (λ (o : Offer). offer o.at o.asks) offers

-- the offer is a route of area n
pub record InsideOf (n : ℕ) (r : AreaRoute) (o : Offer) : Type 0 where
  pub area : r.area ≡ n
  pub at : o.at ≡ r.at
  pub asks : o.asks ≡ r.asks

-- the offer is a route of another area than n
pub record OutsideOf (n : ℕ) (r : AreaRoute) (o : Offer) : Type 0 where
  pub other : r.area ≢ n
  pub at : o.at ≡ r.at
  pub asks : o.asks ≡ r.asks

-- this is the offer of a route, if the route is of area n
abbrev pub IsInsideOffer : ℕ → AreaRoute → Option Offer → Type 0
IsInsideOffer n r found = (o : Offer) → (found ≡ Some o) ↔ InsideOf n r o

-- this is the offer of a route, if the route is of another area than n
abbrev pub IsOutsideOffer : ℕ → AreaRoute → Option Offer → Type 0
IsOutsideOffer n r found = (o : Offer) → (found ≡ Some o) ↔ OutsideOf n r o
