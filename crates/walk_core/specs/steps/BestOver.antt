-- The better of two costs, and first hops towards one offer.
use Rattle.std.specs.Prelude.{◌≡◌, ℕ, Option, Some, None, min}
use Rattle.walk_core.specs.Reach.{Reach, HasHop}
use Rattle.walk_core.specs.declared.offers.Offer.{Offer}
use Rattle.walk_core.specs.BestOffers.{total_towards, total_with}

-- the least of two costs, of which either may be missing
abbrev pub least_cost_of : Option ℕ → Option ℕ → Option ℕ
least_cost_of None other = other
least_cost_of (Some x) None = Some x
least_cost_of (Some x) (Some y) = Some (min x y)

-- there is a distance, and it is the other one with this cost
pub record IsTotal (far : Option ℕ) (cost : ℕ) (distance : Option ℕ) : Type 0 where
  pub value : ℕ
  pub is : distance ≡ Some value
  pub total : total_with far cost ≡ Some value

-- h is a first hop towards an offer, which costs this in all
pub record IsHopOver (reach : Reach) (offer : Offer) (cost h : ℕ) : Type 0 where
  pub total : total_towards reach offer ≡ Some cost
  pub hop : HasHop reach offer.at h
