-- The best of a list of offers, at the distances that are known from the root.
use Rattle.std.specs.Prelude.{◌≡◌, ℕ, ◌+◌, ◌^◌, ◌<◌, ◌≤◌, ◌↔◌, List, Option, Some, None, Contains, All}
use Rattle.std.specs.List.Sorted.{IsStrictlyIncreasing}
use Rattle.walk_core.specs.Reach.{Reach, distance_of, HasHop}
use Rattle.walk_core.specs.declared.offers.Offer.{Offer}

-- the list has an offer at this vertex that asks this
pub record ListsOffer (offers : List Offer) (at asks : ℕ) : Type 0 where
  pub offer : Offer
  pub among : Contains offers offer
  pub made : offer.at ≡ at
  pub asked : offer.asks ≡ asks

-- what an offer costs at the root in all, None where it isn't reached
abbrev pub total_with : Option ℕ → ℕ → Option ℕ
total_with None asks = None
total_with (Some distance) asks = Some (distance + asks)

abbrev pub total_towards : Reach → Offer → Option ℕ
total_towards reach offer = total_with (distance_of reach offer.at) offer.asks

-- the sum fits 64 bits
abbrev pub FitsTotal : Reach → Offer → Type 0
FitsTotal reach offer = (distance : ℕ) → distance_of reach offer.at ≡ Some distance → distance + offer.asks < 2 ^ 64

-- each offer's sum does
abbrev pub AreInRange : Reach → List Offer → Type 0
AreInRange reach offers = All (FitsTotal reach) offers

-- some offer costs this in all
pub record HasTotal (reach : Reach) (offers : List Offer) (cost : ℕ) : Type 0 where
  pub offer : Offer
  pub among : Contains offers offer
  pub total : total_towards reach offer ≡ Some cost

-- no offer is reached
abbrev pub NoneTotals : Reach → List Offer → Type 0
NoneTotals reach offers = (cost : ℕ) → HasTotal reach offers cost → ⊥

-- some offer costs this in all, and none costs less
pub record IsBestTotal (reach : Reach) (offers : List Offer) (cost : ℕ) : Type 0 where
  pub attained : HasTotal reach offers cost
  pub least : (other : ℕ) → HasTotal reach offers other → cost ≤ other

-- h is a first hop towards an offer that costs this in all
pub record IsHopTowards (reach : Reach) (offers : List Offer) (cost h : ℕ) : Type 0 where
  pub offer : Offer
  pub among : Contains offers offer
  pub total : total_towards reach offer ≡ Some cost
  pub hop : HasHop reach offer.at h

-- the hops below n towards the offers that cost this, in ascending order
pub record AreHopsTowards (reach : Reach) (offers : List Offer) (cost n : ℕ) (hops : List ℕ) : Type 0 where
  pub ascending : IsStrictlyIncreasing hops
  pub exact : (h : ℕ) → Contains hops h ↔ ((h < n) × IsHopTowards reach offers cost h)
