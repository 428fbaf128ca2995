-- Lists of offers that differ alone in a constant that each asks more.
use Rattle.std.specs.Prelude.{◌≡◌, ◌⊎◌, ◌+◌, ℕ, List, map}
use Rattle.walk_core.specs.declared.offers.Offer.{Offer}

-- the offer at the same vertex that asks this much more
abbrev pub dearer_by : ℕ → Offer → Offer
dearer_by more offer = record { at = offer.at; asks = offer.asks + more }

-- the offers of the second list are those of the first one in their order, each asking this much more
abbrev pub AreDearerBy : ℕ → List Offer → List Offer → Type 0
AreDearerBy more one other = other ≡ map (dearer_by more) one

-- the offers of two lists are made at the same vertices in the same order, and what they ask differs by one constant
pub record AreAlikeOffers (one other : List Offer) : Type 0 where
  pub more : ℕ
  pub dearer : AreDearerBy more one other ⊎ AreDearerBy more other one
