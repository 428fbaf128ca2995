-- What is offered or announced of a prefix: nothing, one or two offers, or those of a vector.
use Rattle.std.specs.Prelude.{List, [], ◌∷◌}
use Rattle.walk_core.specs.declared.offers.Offer.{Offer}
use Rattle.route_tables.specs.declared.kept_offers.OffersKept.{OffersKept}
use Rattle.route_tables.specs.declared.kept_offers.OffersKept.TheVariants.{None, One, Two, Several}

-- the list
pub record KeptOfferList : Type 0 where
  pub items : List Offer

-- which one is kept so
abbrev pub listed_kept : OffersKept → List Offer
listed_kept None = []
listed_kept (One one) = one ∷ []
listed_kept (Two two) = two
listed_kept (Several all) = all.items
